use Rattle.std.proofs.Common.{Bool, List, ℕ, inl, inr, refl, subst, ◌∙◌}
use Rattle.script_runs.specs.Texts.{cut_lines}
use Rattle.zodb_top.specs.Serves.{EndSays}
use Rattle.zodb_top.proofs.serving.serve_over.Goals as goal

pub returns-in_default-clause-serves : goal.returns-in_default-clause-serves
returns-in_default-clause-serves g c = inl (record { is = refl; silent = refl; store = refl; clock = refl; links = refl })

pub returns-clause-serves : goal.returns-clause-serves
returns-clause-serves g c =
    let K = g.K.Sink in
    let old = K.taken c.args.sink.now in
    let new = K.taken c.say_end-status.new.sink in
    let before = K.faults c.args.sink.now in
    let now = K.faults c.say_end-status.new.sink in
    let s = c.say_end-status.result in
    let served = c.serve_store-failed.result.0 in
    let count = c.args.request.count in
    inr (record {
      served = served;
      serves = c.serve_store-failed.ensures.serves;
      says = subst (λ (b : Bool). EndSays s old new before now b served count (cut_lines c.args.cut)) c.serve_store-failed.ensures.failed
          (subst (λ (xs : List (List ℕ)). EndSays s old new before now c.serve_store-failed.result.1 served count xs) (c.as_slice.ensures ∙ c.in-Ok.ensures) c.say_end-status.ensures.says);
      images = c.serve_store-failed.ensures.images;
    })
