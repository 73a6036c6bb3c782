use Rattle.std.proofs.Common.{ℕ, List, take, ap, sym, subst, ◌∙◌, length}
use Rattle.zb_volume.specs.Disk.{main_bytes}
use Rattle.fs_reading.specs.Known.{AreSourcesOf}
use Rattle.file_store.proofs.Sources.{known_front, known_whole}
use Rattle.file_store.proofs.looking.transaction_with.Goals as goal

pub read_transaction_with-requires-clause-known : goal.read_transaction_with-requires-clause-known
read_transaction_with-requires-clause-known g c = λ told. known_whole (main_bytes (g.V.Volume.state c.args.volume.now).log) c.args.end c.args.known.now (c.requires.whole told c.if-whole.true) (c.requires.known told)

pub returns-then-whole-clause-known : goal.returns-then-whole-clause-known
returns-then-whole-clause-known g c = λ told.
    let now = c.read_transaction_with.ensures.read.same in
    known_front (main_bytes (g.V.Volume.state c.read_transaction_with.new.volume).log) c.args.end c.read_transaction_with.new.known (ap (λ log. length (main_bytes log)) now ∙ c.requires.whole told c.if-whole.true) (c.read_transaction_with.ensures.known told)

pub returns-clause-known : goal.returns-clause-known
returns-clause-known g c = λ told.
    subst (λ (b : List ℕ). AreSourcesOf (take c.args.end b) c.args.known.now) (sym (ap main_bytes c.read_transaction_with-2.ensures.read.same)) (c.requires.known told)
