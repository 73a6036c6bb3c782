-- What the calls of a remote client make at the machine at the other end of a carrier that tells. Own.
use Rattle.std.specs.Prelude.{◌≡◌, IsOk}
use Rattle.zodb_core.specs.declared.reply.Reply.{Reply}
use Rattle.zodb_core.specs.declared.request.Request.{Request}
use Rattle.zodb_core.specs.declared.request.Request.TheVariants as request
use Rattle.connection_view.specs.Loading.{Abort, Finish, Front, Load, LoadsCall, NewOid, Undo, Vote}
use Rattle.zeo_messages.specs.declared.call.Call.TheVariants as calls
use Rattle.zeo_client.specs.Taking.{ClientState}
use Rattle.remote_loads.specs.Answers.{done_answer, oid_answer}
use Rattle.remote_loads.specs.Finishing.{IsRemoteFinish}
use Rattle.remote_loads.specs.Making.{IsRemoteLoad, IsRemoteUndo, IsRemoteVote, MakesOne}

-- A front makes no step and is never refused, a load makes one where the cache has no answer, a new number, a vote, an undo and an abort one each, and a finish one, with two fronts behind a
-- commit. Where the way to the machine fails, some first of these were made.
abbrev pub IsCallMade : {S : Type 0} → (Request → Reply → S → S → Type 0) → S → ClientState → LoadsCall → S → Type 0
IsCallMade steps before old (Front result) now = (now ≡ before) × IsOk result
IsCallMade steps before old (Load oid front result) now = IsRemoteLoad steps before old.held oid front result now
IsCallMade steps before old (NewOid result) now = MakesOne steps (request.NewOids 1) (calls.NewOids 1) oid_answer before result now
IsCallMade steps before old (Vote user description stores checks result) now = IsRemoteVote steps before user description stores checks result now
IsCallMade steps before old (Undo user description tids result) now = IsRemoteUndo steps before user description tids result now
IsCallMade steps before old (Finish result) now = IsRemoteFinish steps before result now
IsCallMade steps before old (Abort result) now = MakesOne steps request.Abort calls.TpcAbort done_answer before result now
