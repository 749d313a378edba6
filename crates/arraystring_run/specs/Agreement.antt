-- This module exports the definitions of `arraystring_run.specs.ReplyAgreement`. Old names stand after `as`, until the next release.
pub use Rattle.arraystring_run.specs.ReplyAgreement.{commands_before, RepliesAgreeExceptCapacity, RepliesAgreeExceptCapacity as Agrees, AllRepliesAgree, AllRepliesAgree as AllAgree, IsNoLater, IsNoLater as IsNoSooner}
