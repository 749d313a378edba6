use Rattle.std.proofs.Common.{◌≡◌, ◌≢◌, ◌<◌, ℕ, List, [], ◌∷◌, ◌++◌, ◌⊎◌, length, refl, ap, arith, append_assoc, inl, inr}
use Rattle.std.proofs.lemmas.Bool.{ne_eqb}
use Rattle.std.proofs.lemmas.Bool.Decides.{eqb_tells}
use Rattle.arraystring_run.specs.LinesOfScripts.{lines, line_feed, prepend_to_first_line, with_newline, joined_terminated_lines, HasNoLineFeed, HaveNoLineFeeds}
use Rattle.arraystring_run.proofs.laws.lines_rejoin_to_input.Goals as goal

line-before : (line rest : List ℕ) → HasNoLineFeed line → lines (line ++ line_feed ∷ rest) ≡ line ∷ lines rest
line-before [] rest one = refl
line-before (b ∷ line) rest one = rw (ne_eqb b line_feed one.0) (ap (prepend_to_first_line b) (line-before line rest one.1))

line-alone : (b : ℕ) (line : List ℕ) → HasNoLineFeed (b ∷ line) → lines (b ∷ line) ≡ (b ∷ line) ∷ []
line-alone b [] one = rw (ne_eqb b line_feed one.0) refl
line-alone b (d ∷ line) one = rw (ne_eqb b line_feed one.0) (ap (prepend_to_first_line b) (line-alone d line one.1))

line-with_newline : (line rest : List ℕ) → HasNoLineFeed line → lines (with_newline line ++ rest) ≡ line ∷ lines rest
line-with_newline line rest one = cc (append_assoc line (line_feed ∷ []) rest, line-before line rest one)

lines-joined_terminated_lines : (all : List (List ℕ)) → HaveNoLineFeeds all → lines (joined_terminated_lines all) ≡ all
lines-joined_terminated_lines [] are = refl
lines-joined_terminated_lines (line ∷ rest) are = cc (line-with_newline line (joined_terminated_lines rest) are.0, lines-joined_terminated_lines rest are.1)

lines-open : (all : List (List ℕ)) (last : List ℕ) → HaveNoLineFeeds all → HasNoLineFeed last → 0 < length last
    → lines (joined_terminated_lines all ++ last) ≡ all ++ last ∷ []
lines-open all [] are one some = absurd (omega arith)
lines-open [] (b ∷ last) are one some = line-alone b last one
lines-open (line ∷ rest) (b ∷ last) are one some =
    cc (
      append_assoc (with_newline line) (joined_terminated_lines rest) (b ∷ last),
      line-with_newline line (joined_terminated_lines rest ++ b ∷ last) are.0,
      lines-open rest (b ∷ last) are.1 one some,
    )

first-one_line : (b : ℕ) (all : List (List ℕ)) → b ≢ line_feed → HaveNoLineFeeds all → HaveNoLineFeeds (prepend_to_first_line b all)
first-one_line b [] other are = ((other, tt), tt)
first-one_line b (line ∷ rest) other are = ((other, are.0), are.1)

lines-one_line : (bs : List ℕ) → HaveNoLineFeeds (lines bs)
lines-one_line [] = tt
lines-one_line (b ∷ bs) =
    elim (eqb_tells b line_feed) [
      | inl (e, is) ↦ rw e (tt, lines-one_line bs)
      | inr (e, other) ↦ rw e (first-one_line b (lines bs) other (lines-one_line bs))
    ]

-- what the lines of an input are, once each is ended: the input, but for its last end
abbrev IsJoined : List (List ℕ) → List ℕ → Type 0
IsJoined all bs = (joined_terminated_lines all ≡ bs) ⊎ (joined_terminated_lines all ≡ with_newline bs)

first-joined : (b : ℕ) (all : List (List ℕ)) (bs : List ℕ) → IsJoined all bs → IsJoined (prepend_to_first_line b all) (b ∷ bs)
first-joined b [] [] (inl e) = inr refl
first-joined b [] [] (inr e) = absurd (cc)
first-joined b [] (d ∷ bs) (inl e) = absurd (cc)
first-joined b [] (d ∷ bs) (inr e) = absurd (cc)
first-joined b (line ∷ rest) bs (inl e) = inl (cc)
first-joined b (line ∷ rest) bs (inr e) = inr (cc)

next-joined : (all : List (List ℕ)) (bs : List ℕ) → IsJoined all bs → IsJoined ([] ∷ all) (line_feed ∷ bs)
next-joined all bs (inl e) = inl (cc)
next-joined all bs (inr e) = inr (cc)

joined : (bs : List ℕ) → IsJoined (lines bs) bs
joined [] = inl refl
joined (b ∷ bs) =
    elim (eqb_tells b line_feed) [
      | inl (e, is) ↦ rw (e, is) (next-joined (lines bs) bs (joined bs))
      | inr (e, other) ↦ rw e (first-joined b (lines bs) bs (joined bs))
    ]

pub returns : goal.returns
returns c = record {
  all_ended = lines-joined_terminated_lines;
  last_open = lines-open;
  no_ends = lines-one_line;
  input = joined;
}
