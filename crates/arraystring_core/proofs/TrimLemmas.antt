-- The characters at the ends of a text that pass a test.
use Rattle.std.proofs.Common.{◌≡◌, ℕ, List, [], ◌∷◌, ◌++◌, refl, sym, ap, subst, ◌∙◌, Bool, true, false, inl, inr, append_assoc}
use Rattle.std.proofs.lemmas.Bool.{cases_Bool}
use Rattle.std.proofs.lemmas.List.{reverse-append, reverse-reverse}
use Rattle.std.proofs.lemmas.List.Elements.{All-nil, All-cons, All-head, All-tail, All-append}
use Rattle.std.specs.Prelude.{All, IfSome, reverse}
use Rattle.arraystring_core.specs.Edits.{first_character, last_character, without_leading, without_trailing}
use Rattle.arraystring_core.proofs.EditLaws.{last_character-push}
use Rattle.arraystring_core.proofs.EndLemmas.{last-split}

-- a first character that passes is dropped, and one that does not stays
pub without_leading-passes : (p : ℕ → Bool) (c : ℕ) (cs : List ℕ) → p c ≡ true → without_leading p (c ∷ cs) ≡ without_leading p cs
without_leading-passes p c cs passes = rw passes refl

pub without_leading-stops : (p : ℕ → Bool) (text : List ℕ) (c : ℕ) (cs : List ℕ) → text ≡ c ∷ cs → p c ≡ false
    → without_leading p text ≡ text
without_leading-stops p text c cs parts stops = rw (parts, stops) refl

-- a last character that passes is dropped, and one that does not stays
pub without_trailing-passes : (p : ℕ → Bool) (t : List ℕ) (c : ℕ) → p c ≡ true
    → without_trailing p (t ++ c ∷ []) ≡ without_trailing p t
without_trailing-passes p t c passes = rw (reverse-append t (c ∷ []), passes) refl

pub without_trailing-stops : (p : ℕ → Bool) (text t : List ℕ) (c : ℕ) → text ≡ t ++ c ∷ [] → p c ≡ false
    → without_trailing p text ≡ text
without_trailing-stops p text t c parts stops =
    rw (parts, reverse-append t (c ∷ []), stops, reverse-append (c ∷ []) (reverse t), reverse-reverse t) refl

-- characters that pass, and what begins with none
pub record IsDropped (p : ℕ → Bool) (t left : List ℕ) : Type 0 where
  pub dropped : List ℕ
  pub parts : t ≡ dropped ++ left
  pub pass : All (λ c. p c ≡ true) dropped
  pub bare : IfSome (first_character left) (λ c. p c ≡ false)

pub leading : (p : ℕ → Bool) (t : List ℕ) → IsDropped p t (without_leading p t)
leading p [] = record { dropped = []; parts = refl; pass = All-nil _; bare = tt }
leading p (c ∷ cs) =
    elim (cases_Bool (p c)) [
      | inl passes ↦
          let rest = leading p cs in
          rw passes
          record {
            dropped = c ∷ rest.dropped;
            parts = ap (λ l. c ∷ l) rest.parts;
            pass = All-cons (λ x. p x ≡ true) c rest.dropped passes rest.pass;
            bare = rest.bare;
          }
      | inr stops ↦ rw stops record { dropped = []; parts = refl; pass = All-nil _; bare = stops }
    ]

-- the same at the end
pub All-reverse : (P : ℕ → Type 0) (t : List ℕ) → All P t → All P (reverse t)
All-reverse P [] h = All-nil P
All-reverse P (c ∷ cs) h =
    rw (reverse-append (c ∷ []) cs)
    (All-append P (reverse cs) (c ∷ []) (All-reverse P cs (All-tail P c cs h)) (All-cons P c [] (All-head P c cs h) (All-nil P)))

last-bare : (P : ℕ → Type 0) (xs ys : List ℕ) → IfSome (first_character (reverse (xs ++ ys))) P → IfSome (last_character ys) P
last-bare P xs [] = λ h. tt
last-bare P xs (c ∷ cs) =
    let last = last-split c cs in
    subst (λ l. IfSome (first_character (reverse (xs ++ l))) P → IfSome (last_character l) P) (sym last.2)
    (λ h. rw (last_character-push last.0 last.1) (rw (reverse-append xs (last.0 ++ last.1 ∷ []), reverse-append last.0 (last.1 ∷ [])) at h))

pub trailing-bare : (p : ℕ → Bool) (t : List ℕ) → IfSome (last_character (without_leading p (without_trailing p t))) (λ c. p c ≡ false)
trailing-bare p t =
    let is = leading p (without_trailing p t) in
    last-bare (λ c. p c ≡ false) is.dropped (without_leading p (without_trailing p t))
    (rw (← is.parts, reverse-reverse (without_leading p (reverse t))) (leading p (reverse t)).bare)

pub trimmed-parts : (p : ℕ → Bool) (t : List ℕ)
    → t ≡ (leading p (without_trailing p t)).dropped
    ++ (without_leading p (without_trailing p t) ++ reverse (leading p (reverse t)).dropped)
trimmed-parts p t =
    let is = leading p (without_trailing p t) in
    let end = leading p (reverse t) in
    sym (reverse-reverse t) ∙ ap reverse end.parts ∙ reverse-append end.dropped (without_leading p (reverse t))
    ∙ ap (λ l. l ++ reverse end.dropped) is.parts ∙ append_assoc is.dropped _ (reverse end.dropped)
