-- This module exports the definitions of `bounded_records.specs.RecordBytes`. Old names stand after `as`, until the next release.
pub use Rattle.bounded_records.specs.RecordBytes.{field_of, record_of, IsRecord, username_field, role_field, count, counted_bytes, uncounted_bytes, uncounted_bytes as padding, HasRecordSize, HasRecordSize as HasLength, CountsFit, AreWellFormed, ArePadded, IsFirstFault}
