-- Rulesets: the laws that one kind of work wants, under one word. A function cites it in its attribute, as in
-- `#[tactic(auto, using(arraystring::proofs::Rules::additions))]`, and the check then lists these laws at each goal.
-- A row of an edit opens by itself: what a goal lacks is what its tests ask. So each set is small, as `grind` has limits.
use Rattle.std.proofs.Common.{append_assoc}
use Rattle.std.proofs.lemmas.Bool.Decides.{nat_tests}
use Rattle.std.proofs.lemmas.Fmt.{decimal_digit, decimal_step}
use Rattle.std.proofs.lemmas.List.{take_all, append-nil, reverse-append}
use Rattle.std.proofs.lemmas.List.Sums.{length-filter, count_by-le-length}
use Rattle.arraystring_base.proofs.TextLaws.{size-append, size-is, size-borrowed, empty-size, width-bounds, width-is}
use Rattle.arraystring_base.proofs.CutLaws.{cut-all, cut-fits, cut-past, cut-past_part}
use Rattle.arraystring_base.proofs.BoundaryLaws.{front-start, back-start}
use Rattle.arraystring.proofs.AdditionLaws.{addition-made, addition-refused, addition_of_cut-makes, addition_of_cut-cuts, addition-char_cuts, cut-full}
use Rattle.arraystring.proofs.BoundaryLaws.{front-fits, boundary-start, boundary-at_end, boundary-behind_given, boundary-behind_char, boundary-before_char, boundary-after_char, part-start, part-end, part_in-front}
use Rattle.arraystring.proofs.CharacterLaws.{width-one, width-low, chars-ascii, size-repeated, first-boundary}
use Rattle.arraystring.proofs.LoopLaws.{taken-item, taken-with, taken-chars, taken-size, pieces-push, replicate-more, walked-chars, counted-chars}
use Rattle.arraystring.proofs.SplitLaws.{joined-found}
use Rattle.arraystring.proofs.RemovalLaws.{popping-made, popped-take, popped-length, removal-made}
use Rattle.arraystring.proofs.ChainLaws.{map_pieces, filter_pieces, kept_pieces, gives-chars, gives-mapped, gives-kept}
use Rattle.arraystring.proofs.DigitLaws.{bytes-ascii, bytes-decimal, size-decimal, size-signed}
use Rattle.arraystring.proofs.PlaceLaws.{place-within, removed-place, cut-place, end-place}
use Rattle.arraystring.proofs.PopLaws.{last-split}
use Rattle.arraystring.proofs.SizeLaws.{size-map, size-filter, size-reverse, size-pieces, length-low}
use Rattle.arraystring.proofs.TracedLaws.{memory-push, traced-push, traced-rest, traced-item}
use Rattle.arraystring.proofs.WalkLaws.{walked-on, walked-out}
use Rattle.arraystring.proofs.FieldLaws.{fields-found, fields-none, fields-count}
use Rattle.arraystring.proofs.KeyedLaws.{ordered-put, hashed-put, ordered-out, hashed-out}
use Rattle.arraystring.proofs.BorrowedLaws.{borrowed-same, borrowed-order, borrowed-length, borrowed-bytes}
use Rattle.arraystring.proofs.PrefixLaws.{prefix-found, prefix-bytes, text-found, text-bytes}
use Rattle.arraystring.proofs.ReadBackLaws.{number-read, signed-read}

-- appends, each whole or refused, one after the other
pub ruleset additions = (addition-made, addition-refused, size-append, append_assoc)

-- appends that are cut
pub ruleset cuts = (addition_of_cut-makes, addition_of_cut-cuts, cut-all, cut-fits, size-append, append_assoc)

-- insertions at an index, and the place behind the text that is put there
pub ruleset insertions = (boundary-at_end, boundary-behind_given, front-fits, nat_tests)

-- a place between two characters: the texts before and after it, and the places before and behind a character
pub ruleset cursors = (boundary-behind_given, boundary-behind_char, boundary-before_char, boundary-after_char, boundary-start, boundary-at_end, front-fits, part-start, part-end, part_in-front, width-is, nat_tests)

-- removals: of the last character, of the one at an index
pub ruleset removals = (boundary-at_end, popping-made, removal-made)

-- a loop of `pop`, which keeps the first characters
pub ruleset pops = (popped-take, popped-length, take_all)

-- splits, truncations, drains and replacements, at boundaries
pub ruleset splits = (boundary-at_end)

-- insertions and removals at index 0
pub ruleset at_start = (front-start, back-start, empty-size)

-- the place behind a first character of ASCII
pub ruleset firsts = (first-boundary, front-start, back-start)

-- sizes of texts and of characters
pub ruleset sizes = (size-append, size-is, size-borrowed, empty-size, width-bounds, width-is)

-- literals of ASCII, and one character many times
pub ruleset literals = (chars-ascii, width-one, size-repeated, replicate-more)

-- the digits of a number, from the first to the last
pub ruleset numbers = (decimal_digit, decimal_step)

-- a loop over a slice, which appends a piece for each item
pub ruleset slices = (taken-item)

-- a loop over a slice, which keeps as many pieces as fit
pub ruleset takes = (taken-with)

-- a loop over the characters of a text, or over a slice, which appends a piece for each and remembers something of those so far
pub ruleset traces = (memory-push, traced-push, traced-rest, traced-item)

-- a loop over the characters of a text, which appends a piece for each
pub ruleset characters = (taken-chars, pieces-push)

-- pieces one after the other, of which what fits is kept: by `push_str`, or a character by `try_push`
pub ruleset cut_pieces = (addition-char_cuts, cut-past, cut-past_part, cut-all, append-nil)

-- a line that is full, or has no room for what comes next
pub ruleset full_lines = (cut-full)

-- a text that is put together at a character, and split there again
pub ruleset joins = (joined-found)

-- what most callers want: appends, whole or cut, literals, loops over slices and characters, removals, splits, insertions at index 0
pub ruleset texts = (addition-made, addition-refused, size-append, append_assoc, addition_of_cut-makes, addition_of_cut-cuts, cut-all, cut-fits, chars-ascii, size-repeated, replicate-more, size-borrowed, width-low, taken-item, taken-chars, pieces-push, boundary-at_end, popping-made, removal-made, front-start, back-start, counted-chars)

-- a text that is taken apart from its end, by `while let Some(last) = text.pop()`
pub ruleset backwards = (last-split, reverse-append, append-nil, size-reverse)

-- a place between two characters that an edit leaves where it was, and both ends of a text
pub ruleset places = (place-within, removed-place, cut-place, end-place, front-start, back-start)

-- a loop that appends what `map` and `filter` make of each character
pub ruleset chains = (map_pieces, filter_pieces, kept_pieces)

-- what `chars()` gives, with `map` and `filter` behind it, to `from_chars` and `try_from_chars`
pub ruleset given = (gives-chars, gives-mapped, gives-kept)

-- sizes of what `map`, `filter`, `reverse` and pieces make of a text, and how many characters a loop has taken
pub ruleset widths = (size-map, size-filter, size-reverse, size-pieces, width-low, length-low, taken-size)

-- texts of ASCII, as `is_ascii` finds them
pub ruleset ascii = (bytes-ascii)

-- the sizes of numbers in decimal, by their types
pub ruleset digits = (bytes-decimal, size-decimal, size-signed)

-- a walk over the characters of a text by `next`, in a loop of one's own
pub ruleset walks = (walked-on, walked-out, append-nil, nat_tests)

-- a text that `split_once` splits at a character, and what is behind it again
pub ruleset fields = (fields-found, fields-none, fields-count)

-- a `BTreeMap` and a `HashMap` whose keys are strings
pub ruleset keyed = (ordered-put, hashed-put, ordered-out, hashed-out)

-- texts that std compares, orders and measures by their bytes
pub ruleset borrowed = (borrowed-same, borrowed-order, borrowed-length, borrowed-bytes)

-- a number that `parse` reads back from its digits
pub ruleset read_back = (number-read, signed-read)

-- what stands behind a text that `strip_prefix` takes off, and round one that `find` or `split_once` finds
pub ruleset prefixes = (prefix-found, prefix-bytes, text-found, text-bytes)

-- a loop that takes the characters of a text and makes no other one, as one that counts them
pub ruleset counts = (walked-chars, counted-chars, length-filter, count_by-le-length)
