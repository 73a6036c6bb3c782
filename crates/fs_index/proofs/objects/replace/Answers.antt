use Rattle.std.specs.Prelude.{nat_eq, ◌++◌}
use Rattle.std.specs.Map.{lookup}
use Rattle.fs_index.specs.Slots.{slots_from, alone_kept}
use Rattle.fs_index.proofs.Alone.{replaced}
use Rattle.fs_index.proofs.objects.replace.Goals as goal

pub returns-clause-ok : goal.returns-clause-ok
returns-clause-ok c = λ o. replaced (alone_kept c.args.alone.now.items) c.args.several.now.entries c.set.new.self.entries c.args.oid o c.args.places
    (lookup (nat_eq o) (slots_from 0 (alone_kept c.forget.new.alone.items) ++ c.set.new.self.entries)) (c.in_ok-set.ensures.ok o) (c.forget.ensures c.set.new.self.entries o)
