use Rattle.script_runs.proofs.playing.lasting.Goals as goal

pub returns : goal.returns
returns g c = record { lasting = λ lasts whole. g.met.St.Store.lasting c.args.store.now lasts whole }
