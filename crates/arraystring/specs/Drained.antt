-- This module exports the definitions of `arraystring_core.specs.Drained`. Old names stand after `as`, until the next release.
pub use Rattle.arraystring_core.specs.Drained.{DrainView, DrainView as Drained, drain_advanced_to, drain_advanced_to as drain_after_front, drain_advanced_to as drained, drain_advanced_to as drain_from, removed_string_without_backs, removed_string_without_backs as removed_of, drain_result_as_text, drain_result_as_text as result_with_left, drain_result_as_text as with_left, DrainEnd, DrainEnd as End, WalkResult, WalkResult as Walked, prepend_to_fronts, prepend_to_fronts as prepend_from_front, prepend_to_fronts as from_front, prepend_to_backs, prepend_to_backs as prepend_from_back, prepend_to_backs as from_back, walk_from_ends, walk_from_ends as walk_of, walk_from_ends as walked, Front, Back}
