-- What was appended, all or a prefix of what was to be.
use Rattle.std.proofs.Common.{◌≡◌, ℕ, ◌==◌, ◌∙◌, ap, subst, true, length, take, drop, take-append-drop, List, [], ◌++◌, sym, append_assoc, Option}
use Rattle.std.proofs.lemmas.List.{append-nil}
use Rattle.std.proofs.KnownBytes.{Appends-trans, Appends-kept}
use Rattle.std.specs.Io.KnownBytes.{Appends, Keeps}
use Rattle.arraystring_run.specs.Writing.{AppendsPrefix, PassesThroughBuffer}
use Rattle.arraystring_run.proofs.RunLemmas.{is_empty-none}

pub front-all : (a b : Option (List ℕ)) (bs : List ℕ) → Appends a b bs → AppendsPrefix a b bs
front-all a b bs p = record { done = bs; later = []; whole = sym (append-nil bs); appended = p }

pub front-more : (a b : Option (List ℕ)) (bs cs : List ℕ) → AppendsPrefix a b bs → AppendsPrefix a b (bs ++ cs)
front-more a b bs cs p = record {
  done = p.done;
  later = p.later ++ cs;
  whole = cc (p.whole, append_assoc p.done p.later cs);
  appended = p.appended;
}

pub front-then : (a b c : Option (List ℕ)) (bs cs : List ℕ) → Appends a b bs → AppendsPrefix b c cs → AppendsPrefix a c (bs ++ cs)
front-then a b c bs cs p q = record {
  done = bs ++ q.done;
  later = q.later;
  whole = cc (q.whole, append_assoc bs q.done q.later);
  appended = Appends-trans a b c bs q.done p q.appended;
}

-- a first write that left nothing
pub appended-all : (a b : Option (List ℕ)) (all done rest : List ℕ) → all ≡ done ++ rest → true ≡ (length rest == 0)
    → Appends a b done → Appends a b all
appended-all a b all done rest parts none p = rw (parts, is_empty-none rest none, append-nil) p

-- a first write, and nothing of the rest
pub front-kept : (a b c : Option (List ℕ)) (all done rest : List ℕ) → all ≡ done ++ rest
    → Appends a b done → Keeps b c → AppendsPrefix a c all
front-kept a b c all done rest parts p q = record { done = done; later = rest; whole = parts; appended = Appends-kept a b c done p q }

-- ---- what waits

module _ (a b : Option (List ℕ)) (waited bs : List ℕ) where
  -- what goes on with bs goes on with more
  pub waits-more : (cs : List ℕ) → AppendsPrefix a b (waited ++ bs) → AppendsPrefix a b (waited ++ (bs ++ cs))
  waits-more cs p = subst (AppendsPrefix a b) (append_assoc waited bs cs) (front-more a b (waited ++ bs) cs p)

  module _ (c : Option (List ℕ)) (waits cs : List ℕ) (p : PassesThroughBuffer a b waited waits bs) where
    joined : waited ++ (bs ++ cs) ≡ p.done ++ (waits ++ cs)
    joined = sym (append_assoc waited bs cs) ∙ ap (λ l. l ++ cs) p.whole ∙ append_assoc p.done waits cs

    pub passed-then : (last : List ℕ) → PassesThroughBuffer b c waits last cs → PassesThroughBuffer a c waited last (bs ++ cs)
    passed-then last q = record {
      done = p.done ++ q.done;
      whole = joined ∙ ap (λ l. p.done ++ l) q.whole ∙ sym (append_assoc p.done q.done last);
      appended = Appends-trans a b c p.done q.done p.appended q.appended;
    }

    pub passed-front : AppendsPrefix b c (waits ++ cs) → AppendsPrefix a c (waited ++ (bs ++ cs))
    passed-front q = subst (AppendsPrefix a c) (sym joined) (front-then a b c p.done (waits ++ cs) p.appended q)

  -- then what waits is written
  module _ (c : Option (List ℕ)) (waits : List ℕ) (p : PassesThroughBuffer a b waited waits bs) where
    pub sent-all : Appends b c waits → Appends a c (waited ++ bs)
    sent-all q = subst (Appends a c) (sym p.whole) (Appends-trans a b c p.done waits p.appended q)

    pub sent-front : AppendsPrefix b c waits → AppendsPrefix a c (waited ++ bs)
    sent-front q = subst (AppendsPrefix a c) (sym p.whole) (front-then a b c p.done waits p.appended q)

-- bytes of which the first n filled the array
pub filled : (n : ℕ) (waited bs first rest full : List ℕ) → first ≡ take n bs → rest ≡ drop n bs → full ≡ waited ++ first
    → full ++ rest ≡ waited ++ bs
filled n waited bs first rest full f r e = cc (f, r, e, append_assoc waited first rest, take-append-drop n bs)

-- all was appended, and nothing waits
pub passed-all : (a b : Option (List ℕ)) (waited waits bs all : List ℕ) → all ≡ waited ++ bs → waits ≡ [] → Appends a b all
    → PassesThroughBuffer a b waited waits bs
passed-all a b waited waits bs all e none p = record {
  done = all;
  whole = sym e ∙ sym (append-nil all) ∙ ap (λ l. all ++ l) (sym none);
  appended = p;
}
