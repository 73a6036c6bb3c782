use Rattle.std.proofs.Common.{ℕ, List, [], ◌∷◌, ap, ◌∙◌}
use Rattle.zb_volume.specs.declared.areas.Area.TheVariants.{Hint}
use Rattle.zb_volume.specs.Calls.{CutTo}
use Rattle.zb_volume.specs.Disk.{seen, written}
use Rattle.zb_volume.specs.Durable.{one_stays}
use Rattle.fs_index_file.proofs.Gates.{cut_is, cut_then, less, open_then, rest_now, rest_then, some_there, stays_then}
use Rattle.fs_index_file.proofs.writing.put_file.Goals as goal

pub cut-requires : goal.cut-requires
cut-requires g c = λ told. some_there _ _ (g.V.Volume.state c.shut.new.volume).log (c.in_ok-shut.ensures.content told)

pub write_and_sync-requires : goal.write_and_sync-requires
write_and_sync-requires g c = λ told. some_there _ _ (g.V.Volume.state c.cut.new.self).log (cut_is (seen (g.V.Volume.state c.args.volume.now).log Hint) (g.V.Volume.state c.shut.new.volume).log (g.V.Volume.state c.cut.new.self).log (c.in_ok-shut.ensures.content told) (c.in_ok-cut.ensures.done told))

pub returns-in_err-shut-clause-any_moment : goal.returns-in_err-shut-clause-any_moment
returns-in_err-shut-clause-any_moment g c = λ told is. less (seen (g.V.Volume.state c.args.volume.now).log Hint) (1 ∷ c.args.rest.now) (g.V.Volume.state c.args.volume.now).log (g.V.Volume.state c.shut.new.volume).log (c.shut.ensures.any_moment told is)

pub returns-in_err-shut-clause-others : goal.returns-in_err-shut-clause-others
returns-in_err-shut-clause-others g c = λ told other not. c.shut.ensures.others told other not

pub returns-in_err-cut-clause-any_moment : goal.returns-in_err-cut-clause-any_moment
returns-in_err-cut-clause-any_moment g c = λ told is. cut_then c.cut.result (seen (g.V.Volume.state c.args.volume.now).log Hint) (1 ∷ c.args.rest.now) (g.V.Volume.state c.args.volume.now).log (g.V.Volume.state c.shut.new.volume).log (g.V.Volume.state c.cut.new.self).log (less (seen (g.V.Volume.state c.args.volume.now).log Hint) (1 ∷ c.args.rest.now) (g.V.Volume.state c.args.volume.now).log (g.V.Volume.state c.shut.new.volume).log (c.shut.ensures.any_moment told is)) (c.in_ok-shut.ensures.settled told) (c.in_ok-shut.ensures.content told) (c.cut.ensures.done told) (c.cut.ensures.failed told)

pub returns-in_err-cut-clause-others : goal.returns-in_err-cut-clause-others
returns-in_err-cut-clause-others g c = λ told other not. stays_then other (g.V.Volume.state c.args.volume.now).log (g.V.Volume.state c.shut.new.volume).log (g.V.Volume.state c.cut.new.self).log (c.shut.ensures.others told other not) (one_stays c.cut.result (g.V.Volume.state c.shut.new.volume).log (g.V.Volume.state c.cut.new.self).log (CutTo Hint 1) other not (c.cut.ensures.done told) (c.cut.ensures.failed told))

pub returns-in_err-write_and_sync-clause-any_moment : goal.returns-in_err-write_and_sync-clause-any_moment
returns-in_err-write_and_sync-clause-any_moment g c = λ told is. rest_then (seen (g.V.Volume.state c.args.volume.now).log Hint) (1 ∷ c.args.rest.now) c.args.rest.now (g.V.Volume.state c.args.volume.now).log (g.V.Volume.state c.shut.new.volume).log (g.V.Volume.state c.cut.new.self).log (g.V.Volume.state c.write_and_sync.new.volume).log (cut_then c.cut.result (seen (g.V.Volume.state c.args.volume.now).log Hint) (1 ∷ c.args.rest.now) (g.V.Volume.state c.args.volume.now).log (g.V.Volume.state c.shut.new.volume).log (g.V.Volume.state c.cut.new.self).log (less (seen (g.V.Volume.state c.args.volume.now).log Hint) (1 ∷ c.args.rest.now) (g.V.Volume.state c.args.volume.now).log (g.V.Volume.state c.shut.new.volume).log (c.shut.ensures.any_moment told is)) (c.in_ok-shut.ensures.settled told) (c.in_ok-shut.ensures.content told) (c.cut.ensures.done told) (c.cut.ensures.failed told)) (c.in_ok-shut.ensures.settled told) (c.in_ok-shut.ensures.content told) (c.in_ok-cut.ensures.done told) (c.write_and_sync.ensures.any_moment told)

pub returns-in_err-write_and_sync-clause-others : goal.returns-in_err-write_and_sync-clause-others
returns-in_err-write_and_sync-clause-others g c = λ told other not. stays_then other (g.V.Volume.state c.args.volume.now).log (g.V.Volume.state c.cut.new.self).log (g.V.Volume.state c.write_and_sync.new.volume).log (stays_then other (g.V.Volume.state c.args.volume.now).log (g.V.Volume.state c.shut.new.volume).log (g.V.Volume.state c.cut.new.self).log (c.shut.ensures.others told other not) (one_stays c.cut.result (g.V.Volume.state c.shut.new.volume).log (g.V.Volume.state c.cut.new.self).log (CutTo Hint 1) other not (c.cut.ensures.done told) (c.cut.ensures.failed told))) (c.write_and_sync.ensures.elsewhere told other not)

pub returns-in_err-write_and_sync-2-clause-any_moment : goal.returns-in_err-write_and_sync-2-clause-any_moment
returns-in_err-write_and_sync-2-clause-any_moment g c = λ told is. open_then (seen (g.V.Volume.state c.args.volume.now).log Hint) c.args.rest.now (g.V.Volume.state c.args.volume.now).log (g.V.Volume.state c.write_and_sync.new.volume).log (g.V.Volume.state c.write_and_sync-2.new.volume).log (rest_then (seen (g.V.Volume.state c.args.volume.now).log Hint) (1 ∷ c.args.rest.now) c.args.rest.now (g.V.Volume.state c.args.volume.now).log (g.V.Volume.state c.shut.new.volume).log (g.V.Volume.state c.cut.new.self).log (g.V.Volume.state c.write_and_sync.new.volume).log (cut_then c.cut.result (seen (g.V.Volume.state c.args.volume.now).log Hint) (1 ∷ c.args.rest.now) (g.V.Volume.state c.args.volume.now).log (g.V.Volume.state c.shut.new.volume).log (g.V.Volume.state c.cut.new.self).log (less (seen (g.V.Volume.state c.args.volume.now).log Hint) (1 ∷ c.args.rest.now) (g.V.Volume.state c.args.volume.now).log (g.V.Volume.state c.shut.new.volume).log (c.shut.ensures.any_moment told is)) (c.in_ok-shut.ensures.settled told) (c.in_ok-shut.ensures.content told) (c.cut.ensures.done told) (c.cut.ensures.failed told)) (c.in_ok-shut.ensures.settled told) (c.in_ok-shut.ensures.content told) (c.in_ok-cut.ensures.done told) (c.write_and_sync.ensures.any_moment told)) (c.in_ok-write_and_sync.ensures.settled told) (c.in_ok-write_and_sync.ensures.content told ∙ rest_now c.args.rest.now (g.V.Volume.state c.cut.new.self).log (cut_is (seen (g.V.Volume.state c.args.volume.now).log Hint) (g.V.Volume.state c.shut.new.volume).log (g.V.Volume.state c.cut.new.self).log (c.in_ok-shut.ensures.content told) (c.in_ok-cut.ensures.done told))) (c.write_and_sync-2.ensures.any_moment told)

pub returns-in_err-write_and_sync-2-clause-others : goal.returns-in_err-write_and_sync-2-clause-others
returns-in_err-write_and_sync-2-clause-others g c = λ told other not. stays_then other (g.V.Volume.state c.args.volume.now).log (g.V.Volume.state c.write_and_sync.new.volume).log (g.V.Volume.state c.write_and_sync-2.new.volume).log (stays_then other (g.V.Volume.state c.args.volume.now).log (g.V.Volume.state c.cut.new.self).log (g.V.Volume.state c.write_and_sync.new.volume).log (stays_then other (g.V.Volume.state c.args.volume.now).log (g.V.Volume.state c.shut.new.volume).log (g.V.Volume.state c.cut.new.self).log (c.shut.ensures.others told other not) (one_stays c.cut.result (g.V.Volume.state c.shut.new.volume).log (g.V.Volume.state c.cut.new.self).log (CutTo Hint 1) other not (c.cut.ensures.done told) (c.cut.ensures.failed told))) (c.write_and_sync.ensures.elsewhere told other not)) (c.write_and_sync-2.ensures.elsewhere told other not)

pub returns-clause-any_moment : goal.returns-clause-any_moment
returns-clause-any_moment g c = λ told is. open_then (seen (g.V.Volume.state c.args.volume.now).log Hint) c.args.rest.now (g.V.Volume.state c.args.volume.now).log (g.V.Volume.state c.write_and_sync.new.volume).log (g.V.Volume.state c.write_and_sync-2.new.volume).log (rest_then (seen (g.V.Volume.state c.args.volume.now).log Hint) (1 ∷ c.args.rest.now) c.args.rest.now (g.V.Volume.state c.args.volume.now).log (g.V.Volume.state c.shut.new.volume).log (g.V.Volume.state c.cut.new.self).log (g.V.Volume.state c.write_and_sync.new.volume).log (cut_then c.cut.result (seen (g.V.Volume.state c.args.volume.now).log Hint) (1 ∷ c.args.rest.now) (g.V.Volume.state c.args.volume.now).log (g.V.Volume.state c.shut.new.volume).log (g.V.Volume.state c.cut.new.self).log (less (seen (g.V.Volume.state c.args.volume.now).log Hint) (1 ∷ c.args.rest.now) (g.V.Volume.state c.args.volume.now).log (g.V.Volume.state c.shut.new.volume).log (c.shut.ensures.any_moment told is)) (c.in_ok-shut.ensures.settled told) (c.in_ok-shut.ensures.content told) (c.cut.ensures.done told) (c.cut.ensures.failed told)) (c.in_ok-shut.ensures.settled told) (c.in_ok-shut.ensures.content told) (c.in_ok-cut.ensures.done told) (c.write_and_sync.ensures.any_moment told)) (c.in_ok-write_and_sync.ensures.settled told) (c.in_ok-write_and_sync.ensures.content told ∙ rest_now c.args.rest.now (g.V.Volume.state c.cut.new.self).log (cut_is (seen (g.V.Volume.state c.args.volume.now).log Hint) (g.V.Volume.state c.shut.new.volume).log (g.V.Volume.state c.cut.new.self).log (c.in_ok-shut.ensures.content told) (c.in_ok-cut.ensures.done told))) (c.write_and_sync-2.ensures.any_moment told)

pub returns-clause-others : goal.returns-clause-others
returns-clause-others g c = λ told other not. stays_then other (g.V.Volume.state c.args.volume.now).log (g.V.Volume.state c.write_and_sync.new.volume).log (g.V.Volume.state c.write_and_sync-2.new.volume).log (stays_then other (g.V.Volume.state c.args.volume.now).log (g.V.Volume.state c.cut.new.self).log (g.V.Volume.state c.write_and_sync.new.volume).log (stays_then other (g.V.Volume.state c.args.volume.now).log (g.V.Volume.state c.shut.new.volume).log (g.V.Volume.state c.cut.new.self).log (c.shut.ensures.others told other not) (one_stays c.cut.result (g.V.Volume.state c.shut.new.volume).log (g.V.Volume.state c.cut.new.self).log (CutTo Hint 1) other not (c.cut.ensures.done told) (c.cut.ensures.failed told))) (c.write_and_sync.ensures.elsewhere told other not)) (c.write_and_sync-2.ensures.elsewhere told other not)

pub returns-clause-content : goal.returns-clause-content
returns-clause-content g c = λ told. c.in_ok-write_and_sync-2.ensures.content told ∙ ap (λ (b : List ℕ). written b 0 (1 ∷ [])) (c.in_ok-write_and_sync.ensures.content told ∙ rest_now c.args.rest.now (g.V.Volume.state c.cut.new.self).log (cut_is (seen (g.V.Volume.state c.args.volume.now).log Hint) (g.V.Volume.state c.shut.new.volume).log (g.V.Volume.state c.cut.new.self).log (c.in_ok-shut.ensures.content told) (c.in_ok-cut.ensures.done told)))
