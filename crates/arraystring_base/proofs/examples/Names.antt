-- Examples of the names of errors.
use Rattle.std.proofs.Common.{◌≡◌, refl, codes}
use Rattle.arraystring_base.specs.Names.{error_name}
use Rattle.arraystring_base.specs.declared.error.Error.TheVariants as error

error_name-of_each : (error_name error.Utf8 ≡ codes "Utf8") × (error_name error.Utf16 ≡ codes "Utf16")
    × (error_name error.OutOfBounds ≡ codes "OutOfBounds")
error_name-of_each = (refl, refl, refl)
