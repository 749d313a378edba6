-- Examples of the names of faults.
use Rattle.std.proofs.Common.{◌≡◌, [], ◌∷◌, map, refl, codes}
use Rattle.bounded_records.specs.Names.{fault_name, user_fault_name}
use Rattle.bounded_records.specs.declared.record.RecordFault.TheVariants.{Length, Count, Utf8, Padding}
use Rattle.bounded_records.specs.declared.user.UserFault.TheVariants.{Username, Role}

fault_name-each : map fault_name (Length ∷ Count ∷ Utf8 ∷ Padding ∷ [])
    ≡ codes "Length" ∷ codes "Count" ∷ codes "Utf8" ∷ codes "Padding" ∷ []
fault_name-each = refl

user_fault_name-each : map user_fault_name (Username ∷ Role ∷ []) ≡ codes "Username" ∷ codes "Role" ∷ []
user_fault_name-each = refl
