use Rattle.std.proofs.Common.{ℕ, ◌<◌, ◌≤◌, List, length, take}
use Rattle.zeo_session.specs.Serving.{HasComeSo}
use Rattle.zeo_session.proofs.Links.{ReadsFront}
use Rattle.zeo_session.proofs.serving.next_payloads.Given as goal

abbrev pub invariant-reading : goal.invariant-reading
invariant-reading g l =
    let I = g.I.Source in
    record {
      can : (goal.iterator-reading g).can_next l.iterator';
      finite : (goal.iterator-reading g).is_finite l.iterator';
      counted : I.faults l.fn.link_in ≤ I.faults l.link_in;
      within : l.count ≤ length l.piece;
      some : 0 < length l.piece;
      read : (came : List ℕ) (given : List (List ℕ)) → HasComeSo came given l.fn.frames → ReadsFront came given (I.left l.fn.link_in) (I.left l.link_in) (take l.count l.piece) l.frames;
    }
