-- Laws of the stop of a reading, and of what is lost.
use Rattle.std.proofs.Common.{◌≡◌, ◌↔◌, ℕ, ◌+◌, ◌-◌, ◌<◌, ◌≤◌, nat_le, List, [], ◌∷◌, ◌++◌, map, refl, subst, arith}
use Rattle.std.proofs.lemmas.Bool.{leb-true, leb-false, cond_both}
use Rattle.std.proofs.lemmas.Bool.Decides.{nat_tests}
use Rattle.arraystring_base.specs.declared.utf16.Unit16.{Unit16}
use Rattle.arraystring_base.specs.declared.utf16.Unit16.TheVariants.{Char, Lone}
use Rattle.arraystring_base.specs.Text.{width, size}
use Rattle.arraystring_base.specs.Utf16.{DecodingStop, End, Fault, Full, IsStopOf, prepend_to_stop, first_stop, lossy_text}

-- the first stop of a run of characters that fits, by what comes after it: each character of the run fits, so `grind` has
-- the stop behind it
stop-end : (run : List ℕ) (n : ℕ) → size run ≤ n → first_stop (map Char run) n ≡ End run
stop-end [] n le = refl
stop-end (c ∷ run) n le = grind (arith, nat_tests, stop-end run (n - width c) (omega arith))

stop-fault : (run : List ℕ) (unit : ℕ) (rest : List Unit16) (n : ℕ) → size run ≤ n
    → first_stop (map Char run ++ Lone unit ∷ rest) n ≡ Fault run
stop-fault [] unit rest n le = refl
stop-fault (c ∷ run) unit rest n le = grind (arith, nat_tests, stop-fault run unit rest (n - width c) (omega arith))

stop-full : (run : List ℕ) (c : ℕ) (rest : List Unit16) (n : ℕ) → size run ≤ n → n < size run + width c
    → first_stop (map Char run ++ Char c ∷ rest) n ≡ Full run
stop-full [] c rest n le past = grind (arith, nat_tests)
stop-full (d ∷ run) c rest n le past = grind (arith, nat_tests, stop-full run c rest (n - width d) (omega arith) (omega arith))

-- items have one stop, the first
pub stop-is : (items : List Unit16) (n : ℕ) (stop : DecodingStop) → IsStopOf items n stop → first_stop items n ≡ stop
stop-is items n (End run) at = rw at.0 (stop-end run n at.1)
stop-is items n (Fault run) at = rw at.2 (stop-fault run at.0 at.1 n at.3)
stop-is items n (Full run) at = rw at.2 (stop-full run at.0 at.1 n at.3 at.4)

stops_behind : (c : ℕ) (items : List Unit16) (n : ℕ) (stop : DecodingStop) → width c ≤ n → IsStopOf items (n - width c) stop
    → IsStopOf (Char c ∷ items) n (prepend_to_stop c stop)
stops_behind c items n (End run) fits at = (cc, omega arith)
stops_behind c items n (Fault run) fits at = (at.0, at.1, cc, omega arith)
stops_behind c items n (Full run) fits at = (at.0, at.1, cc, omega arith, omega arith)

stops : (items : List Unit16) (n : ℕ) → IsStopOf items n (first_stop items n)
stops [] n = (refl, omega arith)
stops (Lone unit ∷ items) n = (unit, items, refl, omega arith)
stops (Char c ∷ items) n =
    cond_both (nat_le (width c) n) _ _ (IsStopOf (Char c ∷ items) n)
    (λ fits. stops_behind c items n _ (leb-true _ _ fits) (stops items (n - width c)))
    (λ over. (c, items, refl, omega arith, omega (arith, leb-false _ _ over)))

pub first_stop-is : (items : List Unit16) (n : ℕ) (stop : DecodingStop) → IsStopOf items n stop ↔ (first_stop items n ≡ stop)
first_stop-is items n stop = (stop-is items n stop, λ e. subst (IsStopOf items n) e (stops items n))

-- nothing of a text is lost
pub lossy_text-characters : (t : List ℕ) → lossy_text (map Char t) ≡ t
lossy_text-characters [] = refl
lossy_text-characters (c ∷ cs) = cc (lossy_text-characters cs)

pub ruleset first_stop_is = (first_stop-is)
