-- This module exports the definitions of `bounded_records.specs.DirectoryWalks`. Old names stand after `as`, until the next release.
pub use Rattle.bounded_records.specs.DirectoryWalks.{GivesInOrder, GivesInReverse, GivesCopiesInOrder, text_of_username, text_of_username as stored_text, text_of_borrowed_username, text_of_borrowed_username as name_text, texts_of_borrowed_user, texts_of_borrowed_user as user_texts}
