-- This module exports the definitions of `arraystring_core.specs.Json`. Old names stand after `as`, until the next release.
pub use Rattle.arraystring_core.specs.Json.{json_string, json_string as json_text, cut_text_of_value, cut_text_of_value as text_cut_to, cut_text_of_value as text_within, text_of_value, text_of_value as whole_text, IsWhyRefused, value_error_name}
