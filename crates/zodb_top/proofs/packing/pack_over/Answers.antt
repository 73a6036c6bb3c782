use Rattle.std.proofs.Common.{arith, refl, rules}
use Rattle.zodb_top.proofs.Packs.{nothing_packs, pack_unfailed}
use Rattle.zodb_top.proofs.packing.pack_over.Goals as goal

pub returns-in_default-clause-packs : goal.returns-in_default-clause-packs
returns-in_default-clause-packs g c =
    nothing_packs g.St.Store.told g.St.Store.lasts g.St.Store.stands c.args.pack c.args.cut _ _ (g.St.Store.state c.args.store) _ c.requires.whole (λ lasts. g.met.St.Store.lasting c.args.store lasts c.requires.whole)

pub returns-in_default-clause-counts : goal.returns-in_default-clause-counts
returns-in_default-clause-counts g c = record { others = λ other. refl; sink_counted = omega arith; later = search rules }

pub returns-clause-counts : goal.returns-clause-counts
returns-clause-counts g c =
    let counts = c.pack_store-reply.ensures.counts in
    record {
      others = λ other. counts.others (pack_unfailed _ _ _ _ _ _ _ c.write_reply-status.ensures.says other);
      sink_counted = c.write_reply-status.ensures.counted;
      later = counts.later;
    }
