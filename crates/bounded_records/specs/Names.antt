-- The faults of records and of users are printed under these names.
use Rattle.std.specs.Prelude.{List, ℕ, codes}
use Rattle.bounded_records.specs.declared.record.RecordFault.{RecordFault}
use Rattle.bounded_records.specs.declared.record.RecordFault.TheVariants.{Length, Count, Utf8, Padding}
use Rattle.bounded_records.specs.declared.user.UserFault.{UserFault}
use Rattle.bounded_records.specs.declared.user.UserFault.TheVariants.{Username, Role}

-- the name under which a fault of a record is printed
abbrev pub fault_name : RecordFault → List ℕ
fault_name Length = codes "Length"
fault_name Count = codes "Count"
fault_name Utf8 = codes "Utf8"
fault_name Padding = codes "Padding"

-- the name under which a `UserFault`, the reason why two texts make no user, is printed
abbrev pub user_fault_name : UserFault → List ℕ
user_fault_name Username = codes "Username"
user_fault_name Role = codes "Role"
