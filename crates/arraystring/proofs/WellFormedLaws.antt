-- Laws of bytes that are well-formed UTF-8, and of those that are not.
use Rattle.std.proofs.Common.{◌⊎◌, ℕ, List, inl, inr}
use Rattle.std.specs.Str.{is_utf8}
use Rattle.std.proofs.lemmas.Bool.{cases_Bool}
use Rattle.std.proofs.lemmas.Str.{IsUtf8-from_is_utf8, is_utf8-from_IsUtf8}
use Rattle.arraystring_base.specs.Text.{IsWellFormed}
use Rattle.arraystring_base.proofs.TextLaws.{well_formed-utf8, utf8-well_formed}

-- bytes are well formed, or they are not
pub well_formed-or_not : (bs : List ℕ) → IsWellFormed bs ⊎ ¬ (IsWellFormed bs)
well_formed-or_not bs = elim (cases_Bool (is_utf8 bs)) [
  | inl is ↦ inl (utf8-well_formed (IsUtf8-from_is_utf8 bs is))
  | inr fails ↦ inr (λ well. cc (fails, is_utf8-from_IsUtf8 bs (well_formed-utf8 well)))
]
