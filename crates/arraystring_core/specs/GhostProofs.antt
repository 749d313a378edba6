-- The view that a contract has of an `ArrayString` or a `Drain` determines its fields, because the view has numbers for this (`spare`, and
-- `yielded` in that of a `Drain`). These proofs show that the ghost member `inverse` of each type gives the fields back, and the ghost
-- member `inverse_ok` cites them.
use Rattle.std.proofs.Common.{◌≡◌, ℕ, List, ◌++◌, length, take, drop, ap, ◌∙◌, arith, IsUtf8, length-take-le, length-drop, take-append-drop, take_at}
use Rattle.std.proofs.lemmas.List.{drop_at}
use Rattle.std.proofs.lemmas.Str.{IsUtf8-had}
use Rattle.arraystring_base.specs.Text.{size, bytes}
use Rattle.arraystring_base.proofs.TextLaws.{size-is, bytes-chars}
use Rattle.arraystring_base.proofs.BoundaryLaws.{front-back, front-size}
use Rattle.arraystring_core.specs.Stored.{StringView}
use Rattle.arraystring_core.specs.Layout.{string_in, MeetsStringInvariant, MeetsDrainInvariant, array_of}
use Rattle.arraystring_core.specs.Drained.{drain_advanced_to, removed_string_without_backs}

-- The UTF-8 of the text in a string's view is the n bytes of the array from `start` on, so the size of this text is n. With the other
-- bytes, which the view has in `spare`, it gives back the whole array (`array_of`).
module _ {array_size : ℕ} {array : List ℕ} {start n : ℕ} (is : MeetsStringInvariant array_size array start n) where
  pub stored-utf8 : IsUtf8 (take n (drop start array))
  stored-utf8 = IsUtf8-had _ is.utf8

  pub stored-bytes : bytes (string_in array start n).text ≡ take n (drop start array)
  stored-bytes = bytes-chars stored-utf8

  pub stored-size : size (string_in array start n).text ≡ n
  stored-size =
      size-is (string_in array start n).text ∙ ap length stored-bytes
      ∙ length-take-le n (drop start array) (omega (arith, length-drop start array))

  pub stored-all : array_of (string_in array start n) ≡ array
  stored-all =
      let front = take start array in
      let back = drop n (drop start array) in
      let long : length front ≡ start = length-take-le start array (omega arith) in
      ap (λ f. f ++ (bytes (string_in array start n).text ++ drop start (front ++ back))) (take_at front back start long)
      ∙ ap (λ d. front ++ (bytes (string_in array start n).text ++ d)) (drop_at front back start long)
      ∙ ap (λ b. front ++ (b ++ back)) stored-bytes
      ∙ ap (λ d. front ++ d) (take-append-drop n (drop start array)) ∙ take-append-drop start array

-- the removed string, the size of what was given from the front, the array and the size of the removed text can be computed from the view
-- of a drain
module _ {array_size : ℕ} {array : List ℕ} {start n i : ℕ} (is : MeetsDrainInvariant array_size array start n i) where
  drained-removed : removed_string_without_backs (drain_advanced_to (string_in array start n) i) ≡ string_in array start n
  drained-removed = ap with_spare (front-back (string_in array start n).text i)
    where
      with_spare : List ℕ → StringView
      with_spare t = record { text = t; spare = (string_in array start n).spare }

  pub drained-front : size (drain_advanced_to (string_in array start n) i).yielded ≡ i
  drained-front = front-size (string_in array start n).text i is.at

  pub drained-array : array_of (removed_string_without_backs (drain_advanced_to (string_in array start n) i)) ≡ array
  drained-array = ap array_of drained-removed ∙ stored-all is.in_array

  pub drained-size : size (removed_string_without_backs (drain_advanced_to (string_in array start n) i)).text ≡ n
  drained-size = ap (λ r. size r.text) drained-removed ∙ stored-size is.in_array
