use Rattle.std.proofs.Common.{ℕ, ◌+◌, ◌<◌, List, [], ◌∷◌, ◌++◌, length, ap, sym, subst, ◌∙◌, arith}
use Rattle.zb_volume.specs.declared.areas.Area.TheVariants.{Main}
use Rattle.zb_volume.specs.Disk.{seen}
use Rattle.zb_model.specs.Database.{newest_tid}
use Rattle.fs_records.specs.Listed.{listed, reached_in}
use Rattle.pack_copy.specs.Appending.{IsAtEnd, with_held}
use Rattle.pack_copy.specs.Copying.{CopyKept, IsCopied}
use Rattle.pack_copy.specs.UpTo.{IsCopiedUpTo}
use Rattle.fs_reading.specs.Outlines.{AllStandWithin, outlined_transaction}
use Rattle.pack_copy.proofs.Lefts.{left_none, left_some, left_within, source_begins}
use Rattle.pack_copy.proofs.Short.{one_adds, same_adds}
use Rattle.pack_copy.proofs.Stays.{others_same}
use Rattle.pack_copy.proofs.Turns.{is_start, later_left, more_left, none_left, one_more}
use Rattle.pack_copy.proofs.turn.copy_one.Goals as goal

pub read_at-requires : goal.read_at-requires
read_at-requires g c = λ told.
    let n = c.requires.next told in
    is_start (seen (g.V.Volume.state c.args.volume.now).log Main) c.args.from.now n.0 c.args.start (c.requires.source told) n.1

pub returns-in_err-outline-clause-others : goal.returns-in_err-outline-clause-others
returns-in_err-outline-clause-others g c told = others_same _ _ c.read_at.ensures.same

pub append-requires-clause-side : goal.append-requires-clause-side
append-requires-clause-side g c = λ told. subst (λ l. IsAtEnd l c.args.buffer.now) (sym c.read_at.ensures.same) (c.requires.side told)

pub returns-then-enough-clause-side : goal.returns-then-enough-clause-side
returns-then-enough-clause-side g c = λ told. subst (λ l. IsAtEnd l c.args.buffer.now) (sym c.read_at.ensures.same) (c.requires.side told)

pub returns-in-None-clause-side : goal.returns-in-None-clause-side
returns-in-None-clause-side g c = λ told. subst (λ l. IsAtEnd l c.args.buffer.now) (sym c.read_at.ensures.same) (c.requires.side told)

pub append-requires-clause-copied : goal.append-requires-clause-copied
append-requires-clause-copied g c = λ told. subst (λ (b : List ℕ). IsCopied b c.args.to.now) (ap (λ l. with_held l c.args.buffer.now) (sym c.read_at.ensures.same)) (c.requires.next told).2.copied

pub append-requires-clause-short : goal.append-requires-clause-short
append-requires-clause-short g c = λ told. omega (arith, ap (λ l. length (seen l Main)) c.read_at.ensures.same, (c.requires.source told).short)

pub append-requires-clause-within : goal.append-requires-clause-within
append-requires-clause-within g c = λ told.
    let main = seen (g.V.Volume.state c.args.volume.now).log Main in
    subst (λ (b : List ℕ). AllStandWithin b c.in-Some.left.changes) (ap (λ l. seen l Main) (sym c.read_at.ensures.same))
    (left_within main c.to.inside.tid c.args.keep.now c.args.from.now.entries c.in_ok-outline.outline c.in-Some.left (sym c.left_of.ensures.value ∙ c.in-Some.is) (c.in_ok-outline.ensures.within told))

pub append-requires-clause-later : goal.append-requires-clause-later
append-requires-clause-later g c = λ told.
    let main = seen (g.V.Volume.state c.args.volume.now).log Main in
    let n = c.requires.next told in
    let x = outlined_transaction main c.in_ok-outline.outline in
    let get = c.in_ok-outline.ensures.transaction told (reached_in main) n.0 (source_begins main c.args.from.now (c.requires.source told)) n.1 in
    subst (λ (b : List ℕ). newest_tid (listed b) < c.in-Some.left.tid) (ap (λ l. with_held l c.args.buffer.now) (sym c.read_at.ensures.same))
    (later_left main (with_held (g.V.Volume.state c.args.volume.now).log c.args.buffer.now) c.args.from.now c.args.to.now c.args.keep.now n.0 c.to.inside.tid x (c.requires.source told) get (ap (λ (k : CopyKept). k.tid) c.to.view_is) n.2 (outlined_transaction main c.in-Some.left) (left_some main c.to.inside.tid c.args.keep.now c.args.from.now.entries c.in_ok-outline.outline c.in-Some.left (sym c.left_of.ensures.value ∙ c.in-Some.is)))

pub returns-in_ok-append-in-Some-clause-next : goal.returns-in_ok-append-in-Some-clause-next
returns-in_ok-append-in-Some-clause-next g c = λ told number start upto.
    let main = seen (g.V.Volume.state c.args.volume.now).log Main in
    let side = with_held (g.V.Volume.state c.args.volume.now).log c.args.buffer.now in
    let x = outlined_transaction main c.in_ok-outline.outline in
    let get = c.in_ok-outline.ensures.transaction told (reached_in main) number (source_begins main c.args.from.now (c.requires.source told)) start in
    one_more main side c.args.from.now c.args.to.now c.args.keep.now number c.to.inside.tid x (c.requires.source told) get (ap (λ (k : CopyKept). k.tid) c.to.view_is) upto (outlined_transaction main c.in-Some.left) _ _
    (left_some main c.to.inside.tid c.args.keep.now c.args.from.now.entries c.in_ok-outline.outline c.in-Some.left (sym c.left_of.ensures.value ∙ c.in-Some.is)) (c.in_ok-append-in-Some.ensures.copied told) c.append.ensures.tid (c.in_ok-append-in-Some.ensures.list told ∙ ap (λ l. listed (with_held l c.args.buffer.now) ++ outlined_transaction (seen l Main) c.in-Some.left ∷ []) c.read_at.ensures.same)

pub returns-then-enough-clause-next : goal.returns-then-enough-clause-next
returns-then-enough-clause-next g c = λ told number start upto.
    let main = seen (g.V.Volume.state c.args.volume.now).log Main in
    let x = outlined_transaction main c.in_ok-outline.outline in
    let get = c.in_ok-outline.ensures.transaction told (reached_in main) number (source_begins main c.args.from.now (c.requires.source told)) start in
    more_left main (with_held (g.V.Volume.state c.args.volume.now).log c.args.buffer.now) c.args.from.now c.args.to.now c.args.keep.now number c.to.inside.tid x (c.requires.source told) get (ap (λ (k : CopyKept). k.tid) c.to.view_is) upto (outlined_transaction main c.in-Some.left) (left_some main c.to.inside.tid c.args.keep.now c.args.from.now.entries c.in_ok-outline.outline c.in-Some.left (sym c.left_of.ensures.value ∙ c.in-Some.is))

pub returns-then-enough-clause-others : goal.returns-then-enough-clause-others
returns-then-enough-clause-others g c told = others_same _ _ c.read_at.ensures.same

pub returns-in-None-clause-next : goal.returns-in-None-clause-next
returns-in-None-clause-next g c = λ told number start upto.
    let main = seen (g.V.Volume.state c.args.volume.now).log Main in
    let x = outlined_transaction main c.in_ok-outline.outline in
    let get = c.in_ok-outline.ensures.transaction told (reached_in main) number (source_begins main c.args.from.now (c.requires.source told)) start in
    subst (λ (b : List ℕ). IsCopiedUpTo (listed main) b c.args.to.now c.args.keep.now (number + 1)) (ap (λ l. with_held l c.args.buffer.now) (sym c.read_at.ensures.same))
    (none_left main (with_held (g.V.Volume.state c.args.volume.now).log c.args.buffer.now) c.args.from.now c.args.to.now c.args.keep.now number c.to.inside.tid x (c.requires.source told) get (ap (λ (k : CopyKept). k.tid) c.to.view_is) upto (left_none main c.to.inside.tid c.args.keep.now c.args.from.now.entries c.in_ok-outline.outline (sym c.left_of.ensures.value ∙ c.in-None.is)))

pub returns-in-None-clause-others : goal.returns-in-None-clause-others
returns-in-None-clause-others g c told = others_same _ _ c.read_at.ensures.same

-- ---- what is added

pub returns-in_ok-append-in-Some-clause-added : goal.returns-in_ok-append-in-Some-clause-added
returns-in_ok-append-in-Some-clause-added g c = λ told.
    one_adds c.args.enough _ _ (outlined_transaction (seen (g.V.Volume.state c.read_at.new.volume).log Main) c.in-Some.left) c.if-enough.false
    (c.in_ok-append-in-Some.ensures.list told ∙ ap (λ l. listed (with_held l c.args.buffer.now) ++ outlined_transaction (seen (g.V.Volume.state c.read_at.new.volume).log Main) c.in-Some.left ∷ []) c.read_at.ensures.same)

pub returns-then-enough-clause-added : goal.returns-then-enough-clause-added
returns-then-enough-clause-added g c = λ told. same_adds c.args.enough _ _ (ap (λ l. listed (with_held l c.args.buffer.now)) c.read_at.ensures.same)

pub returns-in-None-clause-added : goal.returns-in-None-clause-added
returns-in-None-clause-added g c = λ told. same_adds c.args.enough _ _ (ap (λ l. listed (with_held l c.args.buffer.now)) c.read_at.ensures.same)
