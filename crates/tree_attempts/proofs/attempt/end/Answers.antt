-- How an attempt ends.
use Rattle.std.proofs.Common.{◌≡◌, Some, Ok, length, subst}
use Rattle.tree_attempts.specs.Calls.{CallEnds, contents_after, contents_of, refusal_of}
use Rattle.tree_attempts.proofs.Tracking.{all_known, made_by, made_reads, refused_attempt, refused_reads}
use Rattle.tree_attempts.proofs.attempt.end.Goals as goal

pub returns-then-is_whole : goal.returns-then-is_whole
returns-then-is_whole g c = record {
  attempt = made_by g.B.Sight.objects c.args._root c.args._operation.now g.B.Sight.numbers (length c.args.numbers.now) c.args.puts c.args._calls.now c.in-Some.answer
      (subst (λ given. CallEnds (contents_of g.B.Sight.objects) (contents_after c.args.puts (contents_of g.B.Sight.objects)) c.args._calls.now c.args._root c.args._operation.now (length c.args.numbers.now) (Ok given)) c.in-Some.is
      (subst (CallEnds (contents_of g.B.Sight.objects) (contents_after c.args.puts (contents_of g.B.Sight.objects)) c.args._calls.now c.args._root c.args._operation.now (length c.args.numbers.now)) c.in-Ok.is c.requires.ends))
      (c.requires.whole c.if-is_whole.true) c.requires.written c.requires.based c.requires.filled;
  wants = tt;
  reads = made_reads c.args.known.now g.B.Sight.objects c.args._root c.args._operation.now g.B.Sight.numbers (length c.args.numbers.now) c.args.puts c.args._calls.now c.in-Some.answer (all_known c.args.known.now c.args._calls.now (c.requires.known c.if-is_whole.true))
      (subst (λ given. CallEnds (contents_of g.B.Sight.objects) (contents_after c.args.puts (contents_of g.B.Sight.objects)) c.args._calls.now c.args._root c.args._operation.now (length c.args.numbers.now) (Ok given)) c.in-Some.is
      (subst (CallEnds (contents_of g.B.Sight.objects) (contents_after c.args.puts (contents_of g.B.Sight.objects)) c.args._calls.now c.args._root c.args._operation.now (length c.args.numbers.now)) c.in-Ok.is c.requires.ends))
      (c.requires.whole c.if-is_whole.true) c.requires.written c.requires.based;
}

pub returns-in-Some-refusal_of-clause-attempt : goal.returns-in-Some-refusal_of-clause-attempt
returns-in-Some-refusal_of-clause-attempt g c =
    let told : Some c.in-Some-refusal_of.why ≡ refusal_of c.in-Err.error = cc in
    refused_attempt g.B.Sight.objects c.args._root c.args._operation.now g.B.Sight.numbers (length c.args.numbers.now) c.args.puts c.args._calls.now c.in-Err.error c.in-Some-refusal_of.why c.args.is_whole _ told
    (subst (CallEnds (contents_of g.B.Sight.objects) (contents_after c.args.puts (contents_of g.B.Sight.objects)) c.args._calls.now c.args._root c.args._operation.now (length c.args.numbers.now)) c.in-Err.is c.requires.ends)
    c.requires.whole c.refused_if.ensures

pub returns-in-Some-refusal_of-clause-reads : goal.returns-in-Some-refusal_of-clause-reads
returns-in-Some-refusal_of-clause-reads g c =
    let told : Some c.in-Some-refusal_of.why ≡ refusal_of c.in-Err.error = cc in
    refused_reads c.args.known.now g.B.Sight.objects c.args._root c.args._operation.now g.B.Sight.numbers (length c.args.numbers.now) c.args.puts c.args._calls.now c.in-Err.error c.in-Some-refusal_of.why c.args.is_whole _ told
    (subst (CallEnds (contents_of g.B.Sight.objects) (contents_after c.args.puts (contents_of g.B.Sight.objects)) c.args._calls.now c.args._root c.args._operation.now (length c.args.numbers.now)) c.in-Err.is c.requires.ends)
    (λ whole. all_known c.args.known.now c.args._calls.now (c.requires.known whole)) c.refused_if.ensures
