-- Examples of the string inside a `CacheString`.
use Rattle.std.proofs.Common.{◌≡◌, Ok, Err, arith, codes}
use Rattle.arraystring_base.specs.Text.{width}
use Rattle.arraystring_base.specs.declared.error.OutOfBounds.{OutOfBounds}
use Rattle.arraystring_core.specs.Construct.{IsWholeOrRefused}
use Rattle.arraystring_core.specs.Edits.{map_err_from_out_of_bounds}
use Rattle.arraystring.specs.Cached.{inner_result}
use Rattle.arraystring.specs.declared.cache_string.CacheString.{CacheString}

-- what `try_from_str("ab")` returns: a string with this text, and no error
inner_result-a_string_with_this_text : (made : CacheString) → made.0.text ≡ codes "ab" → IsWholeOrRefused (codes "ab") 63 (map_err_from_out_of_bounds (inner_result (Ok made)))
unfolding width
inner_result-a_string_with_this_text made is = (omega arith, is)

inner_result-a_string_with_another_text : (made : CacheString) → made.0.text ≡ codes "a"
    → IsWholeOrRefused (codes "ab") 63 (map_err_from_out_of_bounds (inner_result (Ok made))) → ⊥
inner_result-a_string_with_another_text made is whole = let e : codes "a" ≡ codes "ab" = grind arith in grind arith

inner_result-no_error_of_what_fits : (e : OutOfBounds) → IsWholeOrRefused (codes "ab") 63 (map_err_from_out_of_bounds (inner_result (Err e))) → ⊥
unfolding width
inner_result-no_error_of_what_fits e refused = omega (arith, refused.0)
