use Rattle.std.proofs.Common.{◌≡◌, ◌++◌, ◌∷◌, [], List, None, Some, length, rules, ap, subst, arith}
use Rattle.std.proofs.lemmas.List.{length-append}
use Rattle.zb_model.specs.declared.news.NewsCommit.{NewsCommit}
use Rattle.zb_model.specs.Queries.{first_after}
use Rattle.zodb_core.specs.Steps.{commit_of}
use Rattle.zodb_core.proofs.Behind.{AreTold, all_told, first_kept, tells_next}
use Rattle.zodb_core.proofs.since.commits_behind.Goals as goal

pub returns-in_default-clause-found : goal.returns-in_default-clause-found
returns-in_default-clause-found g c = λ told.
    let old = g.St.Store.state c.args.store.now in
    let now = g.St.Store.state c.loop-i.store in
    let end : first_after c.loop-i.at old.list ≡ None = first_kept old now c.loop-i.at c.in_ok-transaction.field-0 None c.loop-i.invariant.same (c.in_ok-transaction.ensures.found told) (search rules) in
    all_told old.list c.args.tid c.loop-i.at c.loop-i.commits (c.loop-i.invariant.told told) end (omega arith)

pub loop-i-preserved : goal.loop-i-preserved
loop-i-preserved g c =
    let old = g.St.Store.state c.args.store.now in
    let now = g.St.Store.state c.loop-i.store in
    let x = c.in-Some.transaction in
    let pushed : c.loop-i.commits ++ commit_of x ∷ [] ≡ c.push.new.self = search rules in
    record {
      same = search rules;
      counted = search rules;
      count = omega (arith, ap length pushed, length-append c.loop-i.commits (commit_of x ∷ []));
      told = λ told.
          let next : first_after c.loop-i.at old.list ≡ Some x = first_kept old now c.loop-i.at c.in_ok-transaction.field-0 (Some x) c.loop-i.invariant.same (c.in_ok-transaction.ensures.found told) (search rules) in
          subst (λ (commits : List NewsCommit). AreTold old.list c.args.tid commits x.tid) pushed
          (tells_next old.list c.args.tid c.loop-i.at c.loop-i.commits x (g.met.St.Store.database c.args.store.now told c.requires.whole) (c.loop-i.invariant.told told) next);
    }
