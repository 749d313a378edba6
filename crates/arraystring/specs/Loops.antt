-- This module exports the definitions of `arraystring.specs.Memory`. Old names stand after `as`, until the next release.
pub use Rattle.arraystring.specs.Memory.{memory, flat_map_with_memory, flat_map_with_memory as traced, filter_with_memory, filter_with_memory as kept}
