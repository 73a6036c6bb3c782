use Rattle.std.proofs.Common.{◌≡◌, ℕ, ◌+◌, List, [], ◌++◌, length, take, drop, refl, ap, ◌∙◌, arith}
use Rattle.std.proofs.lemmas.List.{append-nil}
use Rattle.zb_volume.specs.declared.areas.Area.TheVariants.{Main}
use Rattle.zb_volume.specs.Disk.{main_bytes}
use Rattle.pack_copy.proofs.Appendings.{appended_is, appended_join, appended_none, held_more, pieces_join}
use Rattle.pack_copy.proofs.Stays.{others_join, others_same, seen_same}
use Rattle.pack_copy.proofs.buffer.Buffer.put_main.Goals as goal

pub loop-done-init : goal.loop-done-init
loop-done-init g c = record {
  within = omega arith;
  appended = λ told. appended_none (g.V.Volume.state c.args.volume.now).log c.args.self.now (c.requires.end told);
  others = λ told. others_same _ _ refl;
  counts = record { reads = refl; writes = refl };
}

pub make_room-requires : goal.make_room-requires
make_room-requires g c = λ told. (c.loop-done.invariant.appended told).end

pub returns-in_err-make_room-clause-others : goal.returns-in_err-make_room-clause-others
returns-in_err-make_room-clause-others g c = λ told. others_join _ _ _ (c.loop-done.invariant.others told) (c.make_room.ensures.others told)

pub read_in-requires-clause-within : goal.read_in-requires-clause-within
read_in-requires-clause-within g c = λ told.
    let was = seen_same Main _ _ (c.loop-done.invariant.others told Main refl) in
    let now = seen_same Main _ _ (c.make_room.ensures.others told Main refl) in
    let within = c.requires.within told in
    let short = c.requires.short told in
    omega (arith, within, short, ap (λ (xs : List ℕ). length xs) was, ap (λ (xs : List ℕ). length xs) now, c.saturating_add-from.ensures, c.loop-done-test.true)

pub returns-in_err-more-clause-others : goal.returns-in_err-more-clause-others
returns-in_err-more-clause-others g c = λ told. others_join _ _ _ (others_join _ _ _ (c.loop-done.invariant.others told) (c.make_room.ensures.others told)) (others_same _ _ c.read_in.ensures.same)

pub loop-done-preserved : goal.loop-done-preserved
loop-done-preserved g c =
    let main : List ℕ = main_bytes (g.V.Volume.state c.args.volume.now).log in
    let done : ℕ = c.loop-done.done in
    let more : ℕ = c.in_ok-more.more in
    let from : ℕ = c.saturating_add-from.result in
    record {
      within = omega (arith, c.in_ok-more.ensures.count, c.loop-done-test.true);
      appended = λ told.
          let was = seen_same Main _ _ (c.loop-done.invariant.others told Main refl) in
          let now : main_bytes (g.V.Volume.state c.make_room.new.volume).log ≡ main = seen_same Main _ _ (c.make_room.ensures.others told Main refl) ∙ was in
          let room = c.in_ok-make_room.ensures.appended told in
          let so_far = appended_join _ _ _ _ _ _ (take done (drop c.args.at main)) [] (c.loop-done.invariant.appended told) room in
          let at : from ≡ c.args.at + done = omega (arith, c.requires.within told, c.requires.short told, c.saturating_add-from.ensures, c.loop-done-test.true) in
          let part : take more (drop from (main_bytes (g.V.Volume.state c.make_room.new.volume).log)) ≡ take more (drop (c.args.at + done) main) = ap (λ (xs : List ℕ). take more (drop from xs)) now ∙ ap (λ (n : ℕ). take more (drop n main)) at in
          let read = held_more _ _ c.make_room.new.self c.read_in.new.self (take more (drop from (main_bytes (g.V.Volume.state c.make_room.new.volume).log))) c.read_in.ensures.same (c.in_ok-more.ensures.held told) c.read_in.ensures.end room.end (c.in_ok-more.ensures.fits told) in
          appended_is _ _ _ _ ((take done (drop c.args.at main) ++ []) ++ take more (drop from (main_bytes (g.V.Volume.state c.make_room.new.volume).log))) (take (done + more) (drop c.args.at main))
          (ap (λ (xs : List ℕ). xs ++ take more (drop from (main_bytes (g.V.Volume.state c.make_room.new.volume).log))) (append-nil (take done (drop c.args.at main))) ∙ ap (λ (xs : List ℕ). take done (drop c.args.at main) ++ xs) part ∙ pieces_join done more c.args.at main)
          (appended_join _ _ _ _ _ _ (take done (drop c.args.at main) ++ []) _ so_far read);
      others = λ told. others_join _ _ _ (others_join _ _ _ (c.loop-done.invariant.others told) (c.make_room.ensures.others told)) (others_same _ _ c.read_in.ensures.same);
      counts = record {
        reads = c.in_ok-more.ensures.counts.reads ∙ c.in_ok-make_room.ensures.counts.reads ∙ c.loop-done.invariant.counts.reads;
        writes = c.in_ok-more.ensures.counts.writes ∙ c.in_ok-make_room.ensures.counts.writes ∙ c.loop-done.invariant.counts.writes;
      };
    }

pub returns-clause-appended : goal.returns-clause-appended
returns-clause-appended g c = λ told.
    let main : List ℕ = main_bytes (g.V.Volume.state c.args.volume.now).log in
    let all : c.loop-done.done ≡ c.args.count = omega (arith, c.loop-done.invariant.within, c.loop-done-test.false) in
    appended_is _ _ _ _ (take c.loop-done.done (drop c.args.at main)) (take c.args.count (drop c.args.at main)) (ap (λ (n : ℕ). take n (drop c.args.at main)) all) (c.loop-done.invariant.appended told)
