-- A line of an open session that a client with a link doesn't ask over it closes that.
use Rattle.std.proofs.Common.{◌≡◌, true, false, Some}
use Rattle.zb_script.specs.declared.line.Line.{Line}
use Rattle.zb_script.specs.declared.line.Line.TheVariants as line
use Rattle.zodb_core.specs.declared.request.Request.{Request}
use Rattle.zodb_core.specs.declared.request.Request.TheVariants as request
use Rattle.client_turns.specs.Asking.{asks_by, plain_request}

pub just_close : (l : Line) (q : Request) → Some q ≡ plain_request l → asks_by true l ≡ false → q ≡ request.Close
just_close line.New q is asks = absurd cc
just_close (line.History oid) q is asks = absurd cc
just_close line.UndoLog q is asks = absurd cc
just_close (line.Pack tid collect) q is asks = absurd cc
just_close (line.PackBegin tid collect) q is asks = absurd cc
just_close line.PackTurn q is asks = absurd cc
just_close line.Close q is asks = same q request.Close is
  where
    same : (a b : Request) → Some a ≡ Some b → a ≡ b
    same a b e = cc
just_close _ q is asks = absurd cc
