use Rattle.std.proofs.Common.{ℕ, List, length, sym, ap, subst, ◌∙◌}
use Rattle.zb_volume.specs.declared.areas.Area.TheVariants.{Main, Hint}
use Rattle.zb_volume.specs.Disk.{area_length, seen}
use Rattle.fs_index_file.specs.Hints.{head_of}
use Rattle.fs_index_file.specs.Reads.{EntriesGive}
use Rattle.fs_index_file.proofs.Numbering.{known_by}
use Rattle.fs_index_file.proofs.Saying.{by_head, hint_gives, none_by_head, ok_gives}
use Rattle.fs_index_file.proofs.reading.read_hint.Goals as goal

pub returns-then-not-may_be_believed-clause-value : goal.returns-then-not-may_be_believed-clause-value
returns-then-not-may_be_believed-clause-value g c = λ told.
    none_by_head (area_length (g.V.Volume.state c.args.volume.now).log Main) c.in_ok-length.length (seen (g.V.Volume.state c.args.volume.now).log Hint) c.in_ok-head.head (c.in_ok-length.ensures.value told ∙ ap (λ l. length (seen l Hint)) c.len.ensures.read.same) (c.in_ok-head.ensures.value told ∙ ap (λ l. head_of (seen l Hint)) (c.len-2.ensures.read.same ∙ c.len.ensures.read.same)) (ap (λ (n : ℕ). by_head n c.in_ok-length.length c.in_ok-head.head) (sym (c.in_ok-long.ensures.value told)) ∙ sym c.may_be_believed.ensures ∙ c.if-not-may_be_believed.true)

pub returns-clause-value : goal.returns-clause-value
returns-clause-value g c = λ told.
    let same = ap (λ l. seen l Hint) (c.read_head.ensures.read.same ∙ c.len-2.ensures.read.same ∙ c.len.ensures.read.same) in
    ok_gives c.read_entries.result (EntriesGive (seen (g.V.Volume.state c.read_head.new.volume).log Hint) c.in_ok-head.head) _
    (λ r gives. hint_gives (area_length (g.V.Volume.state c.args.volume.now).log Main) c.in_ok-length.length (seen (g.V.Volume.state c.args.volume.now).log Hint) c.in_ok-head.head r (c.in_ok-length.ensures.value told ∙ ap (λ l. length (seen l Hint)) c.len.ensures.read.same) (c.in_ok-head.ensures.value told ∙ ap (λ l. head_of (seen l Hint)) (c.len-2.ensures.read.same ∙ c.len.ensures.read.same)) (ap (λ (n : ℕ). by_head n c.in_ok-length.length c.in_ok-head.head) (sym (c.in_ok-long.ensures.value told)) ∙ sym c.may_be_believed.ensures ∙ c.if-not-may_be_believed.false) (subst (λ (b : List ℕ). EntriesGive b c.in_ok-head.head r) same gives))
    (c.read_entries.ensures.value told)

pub returns-clause-honest : goal.returns-clause-honest
returns-clause-honest g c = λ told honest.
    let main = seen (g.V.Volume.state c.args.volume.now).log Main in
    let hint = seen (g.V.Volume.state c.args.volume.now).log Hint in
    let same = ap (λ l. seen l Hint) (c.read_head.ensures.read.same ∙ c.len-2.ensures.read.same ∙ c.len.ensures.read.same) in
    ok_gives c.read_entries.result (EntriesGive (seen (g.V.Volume.state c.read_head.new.volume).log Hint) c.in_ok-head.head) _
    (λ r gives. known_by (length main) main hint r
    (hint_gives (area_length (g.V.Volume.state c.args.volume.now).log Main) c.in_ok-length.length (seen (g.V.Volume.state c.args.volume.now).log Hint) c.in_ok-head.head r (c.in_ok-length.ensures.value told ∙ ap (λ l. length (seen l Hint)) c.len.ensures.read.same) (c.in_ok-head.ensures.value told ∙ ap (λ l. head_of (seen l Hint)) (c.len-2.ensures.read.same ∙ c.len.ensures.read.same)) (ap (λ (n : ℕ). by_head n c.in_ok-length.length c.in_ok-head.head) (sym (c.in_ok-long.ensures.value told)) ∙ sym c.may_be_believed.ensures ∙ c.if-not-may_be_believed.false) (subst (λ (b : List ℕ). EntriesGive b c.in_ok-head.head r) same gives)) honest)
    (c.read_entries.ensures.value told)
