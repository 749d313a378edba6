-- Laws of texts that are joined, and of what is taken from an iterator.
use Rattle.std.proofs.Common.{◌≡◌, ℕ, ◌<◌, ◌≤◌, List, [], ◌∷◌, ◌++◌, refl, sym, ap, subst, ◌∙◌, arith, map, append_assoc, inl, inr, Option, Result, Iter, IsUtf8, chars}
use Rattle.std.proofs.lemmas.List.{map-id}
use Rattle.std.specs.Iterator.{AlwaysYields, Yields, YieldsFirst}
use Rattle.std.specs.declared.iter.Copied.{Copied}
use Rattle.std.specs.declared.str.Chars.{Chars}
use Rattle.std.proofs.iter.Yields.{copies, fronts, gives_left, gives_Drains, Copied-slice}
use Rattle.std.proofs.iter.TextItems.{spells}
use Rattle.std.proofs.lemmas.Iterator.Consumers.{YieldsList-from_first}
use Rattle.std.proofs.lemmas.Str.{Chars-gives, encodes-chars}
use Rattle.std.specs.Borrow.{Bor}
use Rattle.arraystring_base.specs.Text.{size, bytes, cut}
use Rattle.arraystring_base.proofs.TextLaws.{size-append, bytes-append, chars-bytes}
use Rattle.arraystring_base.proofs.CutLaws.{cut-past}
use Rattle.arraystring_base.specs.declared.error.Error.{Error}
use Rattle.arraystring_core.specs.Stored.{StringView}
use Rattle.arraystring_core.specs.Drained.{DrainView}
use Rattle.arraystring_core.specs.Construct.{IsWholeOrRefused}
use Rattle.arraystring_core.proofs.ConstructLaws.{IsAllOrPast, settled-cut, made-more}
use Rattle.arraystring_core.specs.Taken.{joined_texts, joined_pieces, piece_text, TakesAll, Takes, Fits, Gives}

-- texts joined
pub joined-append : (a b : List (List ℕ)) → joined_texts (a ++ b) ≡ joined_texts a ++ joined_texts b
joined-append [] b = refl
joined-append (t ∷ a) b = ap (λ l. t ++ l) (joined-append a b) ∙ sym (append_assoc t (joined_texts a) (joined_texts b))

-- the bytes of the texts, one after the other, are those of the joined text
pub bytes-joined : (ts : List (List ℕ)) → bytes (joined_texts ts) ≡ joined_texts (map bytes ts)
bytes-joined [] = refl
bytes-joined (t ∷ ts) = bytes-append t (joined_texts ts) ∙ ap (λ l. bytes t ++ l) (bytes-joined ts)

-- texts after the first that no longer fits change no cut
pub cut-joined_past : (taken more : List (List ℕ)) (n : ℕ) → n < size (joined_texts taken) → cut (joined_texts (taken ++ more)) n ≡ cut (joined_texts taken) n
cut-joined_past taken more n past = ap (λ l. cut l n) (joined-append taken more) ∙ cut-past (joined_texts taken) (joined_texts more) n past

-- the items that an iterator gives are spelled `text`: what a call takes of them is all, or larger than the room
record IsGiven {U T A : Type 0} (becomes : U → T → Type 0) (steps : T → Option A → T → Type 0) (spelled : List A → List ℕ) (iter : U)
    (text : List ℕ) : Type 0 where
  fit : (room : ℕ) → size text ≤ room → Fits becomes steps spelled iter room
  every : (taken : List A) → TakesAll becomes steps iter taken → spelled taken ≡ text
  settled : (taken : List A) (room : ℕ) → Takes becomes steps spelled iter room taken → IsAllOrPast (spelled taken) text room

-- if `whole` is the text of their values
module _ {U T A B : Type 0} (becomes : U → T → Type 0) (steps : T → Option A → T → Type 0) (spelled : List A → List ℕ)
    (value : A → B) (whole : List B → List ℕ) (is : (items : List A) → spelled items ≡ whole (map value items))
    (parts : (a b : List B) → whole (a ++ b) ≡ whole a ++ whole b) (iter : U) (all : List B)
    (gives : Gives becomes steps value iter all) where
  prefix-text : (it : T) (items : List A) (t : T) → becomes iter it → Yields steps it items t
      → (more : List ℕ) × (whole all ≡ spelled items ++ more)
  prefix-text it items t from yields =
      let rest = gives_left steps value items all it t (gives it from) yields in
      (whole rest.0, rw (is items) (ap whole rest.1 ∙ parts (map value items) rest.0))

  all-text : (items : List A) → TakesAll becomes steps iter items → spelled items ≡ whole all
  all-text items takes = is items ∙ ap whole (gives_Drains steps value items all takes.0 (gives takes.0 takes.1) takes.2)

  given : IsGiven becomes steps spelled iter (whole all)
  given = record {
    fit = λ room fits it from items rest yields.
        let prefix = prefix-text it items rest from yields in omega (arith, ap size prefix.1, size-append (spelled items) prefix.0);
    every = all-text;
    settled = λ items room takes. elim takes.2 [
      | inl ends ↦ inl (all-text items (takes.0, takes.1, ends.0), ends.1)
      | inr stops ↦ let prefix = prefix-text takes.0 items stops.0 takes.1 stops.1 in inr (prefix.0, prefix.1, stops.2.4)
    ];
  }

-- the same of characters, which are their own text
module _ {U T : Type 0} (becomes : U → T → Type 0) (steps : T → Option ℕ → T → Type 0) (iter : U) (all : List ℕ)
    (gives : Gives becomes steps (λ c. c) iter all) where
  chars-given : IsGiven becomes steps (λ cs. cs) iter all
  chars-given = given becomes steps (λ cs. cs) (λ c. c) (λ cs. cs) (λ cs. sym (map-id cs)) (λ a b. refl) iter all gives

  pub chars-fit : (room : ℕ) → size all ≤ room → Fits becomes steps (λ cs. cs) iter room
  chars-fit = chars-given.fit

  pub chars-all : (taken : List ℕ) → TakesAll becomes steps iter taken → taken ≡ all
  chars-all = chars-given.every

  module _ (taken : List ℕ) (room : ℕ) (takes : Takes becomes steps (λ cs. cs) iter room taken) where
    pub chars-cut : cut taken room ≡ cut all room
    chars-cut = settled-cut taken all room (chars-given.settled taken room takes)

    pub chars-made : (result : Result StringView Error) → IsWholeOrRefused taken room result → IsWholeOrRefused all room result
    chars-made result = made-more result taken all room (chars-given.settled taken room takes)

-- and of pieces
module _ {U T : Type 0} (becomes : U → T → Type 0) (steps : T → Option (Bor (List ℕ)) → T → Type 0) (iter : U) (all : List (List ℕ))
    (gives : Gives becomes steps piece_text iter all) where
  pieces-given : IsGiven becomes steps joined_pieces iter (joined_texts all)
  pieces-given = given becomes steps joined_pieces piece_text joined_texts (λ pieces. refl) joined-append iter all gives

  pub pieces-fit : (room : ℕ) → size (joined_texts all) ≤ room → Fits becomes steps joined_pieces iter room
  pieces-fit = pieces-given.fit

  pub pieces-all : (taken : List (Bor (List ℕ))) → TakesAll becomes steps iter taken → joined_pieces taken ≡ joined_texts all
  pieces-all = pieces-given.every

  module _ (taken : List (Bor (List ℕ))) (room : ℕ) (takes : Takes becomes steps joined_pieces iter room taken) where
    pub pieces-cut : cut (joined_pieces taken) room ≡ cut (joined_texts all) room
    pieces-cut = settled-cut (joined_pieces taken) (joined_texts all) room (pieces-given.settled taken room takes)

    pub pieces-made : (result : Result StringView Error) → IsWholeOrRefused (joined_pieces taken) room result → IsWholeOrRefused (joined_texts all) room result
    pieces-made result = made-more result (joined_pieces taken) (joined_texts all) room (pieces-given.settled taken room takes)

-- the same, if the values are seen by a function more
always-map : {S A B C : Type 0} (steps : S → Option A → S → Type 0) (value : A → B) (f : B → C) (s : S) (all : List B)
    → AlwaysYields steps value s all → AlwaysYields steps (λ x. f (value x)) s (map f all)
always-map steps value f s [] always = always
always-map steps value f s (y ∷ all) always =
    (always.0, λ x t step. let on = always.1 x t step in (ap f on.0, always-map steps value f t all on.1))

-- an iterator over a slice of pieces gives their texts
pub slice-gives : (s it : Copied (Iter (Bor (List ℕ)))) (pieces : List (Bor (List ℕ))) → s.iter.rest.now ≡ pieces → it ≡ s
    → AlwaysYields (copies fronts) piece_text it (map piece_text pieces)
slice-gives s it pieces rest e =
    subst (λ ps. AlwaysYields (copies fronts) piece_text it (map piece_text ps)) (ap (λ i. i.iter.rest.now) e ∙ rest)
    (always-map (copies fronts) (λ (p : Bor (List ℕ)). p) piece_text it it.iter.rest.now (Copied-slice it))

-- one over the characters of a text gives these
pub text-gives : (s it : Chars) (bs : List ℕ) → IsUtf8 bs → s.rest.now ≡ bs → it ≡ s → AlwaysYields spells (λ c. c) it (chars bs)
text-gives s it bs u rest e = Chars-gives (chars bs) it (encodes-chars bs u ∙ sym (ap (λ i. i.rest.now) e ∙ rest))

-- a `Drain` gives the characters that are left
pub drain-gives : (s it : DrainView) (left : List ℕ) → s.left ≡ left → it ≡ s → AlwaysYields (YieldsFirst (λ d. d.left)) (λ c. c) it left
drain-gives s it left is e = (YieldsList-from_first (λ c. c) (λ (d : DrainView). d.left) left (ap (λ d. d.left) e ∙ is)).runs

pub ruleset past_the_room = (cut-past, cut-joined_past)

pub ruleset drain_gives = (drain-gives)

pub ruleset bytes_joined = (bytes-joined, chars-bytes)
