-- Crates that use this one import the errors from here.
pub use Rattle.arraystring_base.specs.declared.error.Error.{Error}
pub use Rattle.arraystring_base.specs.declared.error.Error.TheVariants.{Utf8, Utf16, OutOfBounds}
