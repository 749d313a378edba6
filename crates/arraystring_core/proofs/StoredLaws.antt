-- Laws of what is stored.
use Rattle.std.proofs.lemmas.Str.{chars-nil}
use Rattle.std.proofs.Common.{◌≡◌, ℕ, ◌+◌, ◌≤◌, List, take, drop, refl, subst, sym, ap, ◌∙◌, arith, true, chars}
use Rattle.arraystring_base.specs.Text.{size, bytes, boundary, IsText}
use Rattle.arraystring_base.proofs.TextLaws.{text-chars, chars-bytes, bytes-utf8}
use Rattle.arraystring_base.proofs.BoundaryLaws.{boundary-within}
use Rattle.arraystring_core.specs.Stored.{StringView}
use Rattle.arraystring_core.specs.Layout.{string_in, MeetsStringInvariant, start_of}
use Rattle.arraystring_core.specs.GhostProofs as ghost_proof

-- the value that a contract sees
module _ {array_size : ℕ} {array : List ℕ} {start n : ℕ} (is : MeetsStringInvariant array_size array start n) {v : StringView} (e : string_in array start n ≡ v) where
  pub opened-bytes : bytes v.text ≡ take n (drop start array)
  opened-bytes = ap (λ s. bytes s.text) (sym e) ∙ ghost_proof.stored-bytes is

  pub opened-size : size v.text ≡ n
  opened-size = ap (λ s. size s.text) (sym e) ∙ ghost_proof.stored-size is

  pub opened-within : (m : ℕ) → boundary v.text m ≡ true → m ≤ n
  opened-within m b = omega (arith, opened-size, boundary-within v.text m b)

  pub opened-end : start_of v + size v.text ≡ start + n
  opened-end = ap (λ s. start_of s + size s.text) (sym e) ∙ ap (λ k. start + k) (ghost_proof.stored-size is)

  pub opened-text : IsText v.text
  opened-text = subst (λ (s : StringView). IsText s.text) e (text-chars (ghost_proof.stored-utf8 is))

-- UTF-8 of a text spells it
pub text_spelled : (t : List ℕ) → IsText t → chars (bytes t) ≡ t
text_spelled t is = chars-bytes (bytes-utf8 t is) refl

pub ruleset opened_size = (opened-size)

pub ruleset opened_end = (opened-end)

pub ruleset chars_nil = (chars-nil)

pub ruleset within = (opened-within)
