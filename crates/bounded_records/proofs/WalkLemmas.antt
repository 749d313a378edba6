-- What runs of calls give, at a walk that is seen as the list of what it has left.
use Rattle.std.proofs.Common.{◌∙◌, ap, length}
use mathlib.Core.List.{map-map}
use Rattle.std.specs.Iterator.{YieldsFirstBy, YieldsLastBy}
use Rattle.std.proofs.iter.runs.Sources.{from_front, from_back}
use Rattle.bounded_records.specs.DirectoryWalks.{GivesInOrder, GivesInReverse, GivesCopiesInOrder}

module _ {A B : Type 0} (view : A → B) where
  pub in_order : GivesInOrder view
  in_order = from_front (YieldsFirstBy view (λ left. left)) view (λ left. left) (λ s t h. ap length h.0) (λ s x t h. h)

  pub in_reverse : GivesInReverse view
  in_reverse = from_back (YieldsLastBy view (λ left. left)) view (λ left. left) (λ s t h. ap length h.0) (λ s x t h. h)

pub copies_in_order : {A B : Type 0} (view : A → B) → GivesCopiesInOrder view
copies_in_order view run seen whole =
    map-map view (λ item. item.now) run.items ∙ (in_order (λ item. view item.now) run seen).4 whole
