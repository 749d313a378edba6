-- Laws of any edit, by its row of the table (specs/Edits).
use Rattle.std.proofs.Common.{◌≡◌, ◌↔◌, ℕ, List, ap, subst, sym, ◌∙◌, refl, Option, Some, None, Result, Ok, Err, if◌then◌else◌}
use Rattle.std.specs.Prelude.{is_none}
use Rattle.std.specs.declared.fmt.Error.{Error as FmtError}
use Rattle.arraystring_base.specs.declared.error.Error.{Error}
use Rattle.arraystring_base.specs.declared.error.OutOfBounds.{OutOfBounds}
use Rattle.arraystring_base.specs.declared.error.Utf8.{Utf8}
use Rattle.arraystring_core.specs.Held.{NoTestHolds, IsFirstCause}
use Rattle.arraystring_core.specs.Edits.{RefusalCause, Edit, Makes, error_of, ok_unless_cause, first_cause, result_of, text_after_edit, map_err_from_out_of_bounds, map_err_from_fmt, map_err_from_utf8}
use Rattle.arraystring.proofs.TestLaws.{none-holds, first-holds}

-- an `Ok` says that no test held, and gives the row's result
pub ok_unless-ok : {A : Type 0} {f : Option RefusalCause} {value given : A} → Ok given ≡ ok_unless_cause f value → (f ≡ None) × (given ≡ value)
ok_unless-ok {f = None} e = (refl, cc)
ok_unless-ok {f = Some cause} e = absurd (cc)

-- an `Err` says that a test held, and gives the error of its cause
pub ok_unless-err : {A : Type 0} {f : Option RefusalCause} (value : A) {error : Error} → Err error ≡ ok_unless_cause f value
    → (cause : RefusalCause) × (f ≡ Some cause) × (error ≡ error_of cause)
ok_unless-err {f = None} value e = absurd (cc)
ok_unless-err {f = Some cause} value e = (cause, refl, cc)

-- a call that has one error returns `Ok` if the row does
pub out_of_bounds-ok : {A : Type 0} {result : Result A OutOfBounds} {value : A} → map_err_from_out_of_bounds result ≡ Ok value → result ≡ Ok value
out_of_bounds-ok {result = Ok given} e = cc
out_of_bounds-ok {result = Err error} e = absurd (cc)

-- one whose error is that of std's `fmt`
pub fmt_error-ok : {A : Type 0} {result : Result A FmtError} {value : A} → map_err_from_fmt result ≡ Ok value → result ≡ Ok value
fmt_error-ok {result = Ok given} e = cc
fmt_error-ok {result = Err error} e = absurd (cc)

-- one whose error is `Utf8`
pub utf8_error-ok : {A : Type 0} {result : Result A Utf8} {value : A} → map_err_from_utf8 result ≡ Ok value → result ≡ Ok value
utf8_error-ok {result = Ok given} e = cc
utf8_error-ok {result = Err error} e = absurd (cc)

-- what an edit leaves, if its first cause is known
left_by : {A : Type 0} (edit : Edit A) (t new : List ℕ) (f : Option RefusalCause) → first_cause edit.tests ≡ f
    → Makes edit t (ok_unless_cause f edit.result) new → new ≡ text_after_edit edit t
left_by edit t new None e m = rw e m.ok
left_by edit t new (Some cause) e m = rw e m.err

-- what makes an edit, if its first cause is known
made_by : {A : Type 0} (edit : Edit A) (t new : List ℕ) (f : Option RefusalCause) → first_cause edit.tests ≡ f
    → new ≡ (if is_none f then edit.after else t) → Makes edit t (ok_unless_cause f edit.result) new
made_by edit t new None e n = record { returns = rw e refl; ok = n; err = tt }
made_by edit t new (Some cause) e n = record { returns = rw e refl; ok = tt; err = n }

-- any edit, by its row
module _ {A : Type 0} {edit : Edit A} {t new : List ℕ} where
  -- an edit that returns `Ok`: no test held, the result is the row's, and so is the text after
  pub edit-made : {value : A} → Makes edit t (Ok value) new → (first_cause edit.tests ≡ None) × (value ≡ edit.result) × (new ≡ edit.after)
  edit-made m = let is = ok_unless-ok m.returns in (is.0, is.1, m.ok)

  -- an edit that returns `Err`: a test held, the error is that of the first that did, and the text is the old one
  pub edit-refused : {error : Error} → Makes edit t (Err error) new
      → (cause : RefusalCause) × (first_cause edit.tests ≡ Some cause) × (error ≡ error_of cause) × (new ≡ t)
  edit-refused m = let is = ok_unless-err edit.result m.returns in (is.0, is.1, is.2, m.err)

module _ {A : Type 0} {edit : Edit A} {t new : List ℕ} {result : Result A Error} where
  -- if no test holds, the result is `Ok`
  pub edit-makes : first_cause edit.tests ≡ None → Makes edit t result new → (result ≡ Ok edit.result) × (new ≡ edit.after)
  edit-makes none m = let is : result ≡ Ok edit.result = m.returns ∙ ap (λ f. ok_unless_cause f edit.result) none in (is, rw is at m.ok)

  -- if a test holds, the result is the error of the first that does
  pub edit-refuses : {cause : RefusalCause} → first_cause edit.tests ≡ Some cause → Makes edit t result new → (result ≡ Err (error_of cause)) × (new ≡ t)
  edit-refuses {cause} some m =
      let is : result ≡ Err (error_of cause) = m.returns ∙ ap (λ f. ok_unless_cause f edit.result) some in (is, rw is at m.err)

  -- the text after, whatever was returned
  pub edit-text : Makes edit t result new → new ≡ text_after_edit edit t
  edit-text m = left_by edit t new (first_cause edit.tests) refl (subst (λ x. Makes edit t x new) m.returns m)

  -- `Makes`, and the two words of the effect of a command, are two ways to say one thing
  pub edit-both_ways : Makes edit t result new ↔ ((result ≡ result_of edit) × (new ≡ text_after_edit edit t))
  edit-both_ways = (
    λ m. (m.returns, edit-text m),
    λ is. subst (λ x. Makes edit t x new) (sym is.0) (made_by edit t new (first_cause edit.tests) refl is.1),
  )

module _ {A : Type 0} {edit : Edit A} {t new : List ℕ} where
  -- an `Ok` says that no test held
  pub edit-none_held : {value : A} → Makes edit t (Ok value) new → NoTestHolds edit.tests
  edit-none_held m = none-holds edit.tests (edit-made m).0

  -- an `Err` says which test was the first that held
  pub edit-first_held : {error : Error} → Makes edit t (Err error) new
      → (cause : RefusalCause) × IsFirstCause edit.tests cause × (error ≡ error_of cause) × (new ≡ t)
  edit-first_held m = let was = edit-refused m in (was.0, first-holds edit.tests was.0 was.1, was.2, was.3)
