-- A contract sees an `ArrayString` as this view.
use Rattle.std.specs.Prelude.{ℕ, List, []}

-- what a contract sees of a string: `text` is the list of its characters, and `spare` has numbers from which, together with the text, the
-- fields of the string can be computed. No public clause names `spare`
pub record StringView : Type 0 where
  pub text : List ℕ
  pub spare : List ℕ

-- a value with the text t and an empty spare, for laws and examples that name only the text. No string has an empty spare, because its
-- spare begins with the offset at which the text starts
abbrev pub view_with_empty_spare : List ℕ → StringView
view_with_empty_spare t = record { text = t; spare = [] }
