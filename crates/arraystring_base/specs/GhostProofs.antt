-- `Error` has to prove, in its ghost member `respects_eq`, that equal errors have equal hashes. It cites this proof for that.
use Rattle.std.specs.Prelude.{◌≡◌, true}
use Rattle.std.proofs.Common.{true≢false, refl, sym}
use Rattle.arraystring_base.specs.declared.error.Error.{Error}
use Rattle.arraystring_base.specs.declared.error.Error.TheVariants.{Utf8, Utf16, OutOfBounds}
use Rattle.arraystring_base.specs.contracts.error.ErrorPartialEq.TheImpl.{ghosts}
use Rattle.arraystring_base.specs.Names.{error_name}

-- equal errors have the same name
pub equal_errors_have_equal_names : (a b : Error) → ghosts.eq a b ≡ true → error_name a ≡ error_name b
equal_errors_have_equal_names Utf8 Utf8 e = refl
equal_errors_have_equal_names Utf8 Utf16 e = absurd (true≢false (sym e))
equal_errors_have_equal_names Utf8 OutOfBounds e = absurd (true≢false (sym e))
equal_errors_have_equal_names Utf16 Utf8 e = absurd (true≢false (sym e))
equal_errors_have_equal_names Utf16 Utf16 e = refl
equal_errors_have_equal_names Utf16 OutOfBounds e = absurd (true≢false (sym e))
equal_errors_have_equal_names OutOfBounds Utf8 e = absurd (true≢false (sym e))
equal_errors_have_equal_names OutOfBounds Utf16 e = absurd (true≢false (sym e))
equal_errors_have_equal_names OutOfBounds OutOfBounds e = refl
