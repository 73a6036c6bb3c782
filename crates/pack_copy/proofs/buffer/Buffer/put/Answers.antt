use Rattle.std.proofs.Common.{ℕ, ◌+◌, ◌-◌, List, [], ◌++◌, length, take, drop, refl, sym, ap, subst, ◌∙◌, arith}
use Rattle.std.proofs.lemmas.List.{append-nil, take_all, take_rest}
use Rattle.zb_base.specs.Bytes.{AreBytes, AreBytes-drop, AreBytes-take}
use Rattle.pack_copy.proofs.Appendings.{appended_is, appended_join, appended_none, fronts_join, held_more}
use Rattle.pack_copy.proofs.Stays.{others_join, others_same}
use Rattle.pack_copy.proofs.buffer.Buffer.put.Goals as goal

pub loop-done-init : goal.loop-done-init
loop-done-init g c = record {
  within = omega arith;
  appended = λ told. appended_none (g.V.Volume.state c.args.volume.now).log c.args.self.now (c.requires told);
  others = λ told. others_same _ _ refl;
  counts = record { reads = refl; writes = refl };
}

pub make_room-requires : goal.make_room-requires
make_room-requires g c = λ told. (c.loop-done.invariant.appended told).end

pub returns-in_err-make_room-clause-others : goal.returns-in_err-make_room-clause-others
returns-in_err-make_room-clause-others g c = λ told. others_join _ _ _ (c.loop-done.invariant.others told) (c.make_room.ensures.others told)

pub loop-done-preserved : goal.loop-done-preserved
loop-done-preserved g c =
    let bytes : List ℕ = c.args.bytes.now in
    let done : ℕ = c.loop-done.done in
    let more : ℕ = c.take_in-more.result in
    let rest : List ℕ = take (length bytes - done) (drop done bytes) in
    record {
      within = omega (arith, c.take_in-more.ensures.count, c.loop-done.invariant.within);
      appended = λ told.
          let room = c.in_ok-make_room.ensures.appended told in
          let so_far = appended_join _ _ _ _ _ _ (take done bytes) [] (c.loop-done.invariant.appended told) room in
          let fits : AreBytes rest = subst (λ (xs : List ℕ). AreBytes xs) (sym (take_rest bytes done)) (AreBytes-drop done bytes c.are_bytes.ensures) in
          let taken = held_more _ _ c.make_room.new.self c.take_in-more.new.self (take more rest) refl c.take_in-more.ensures.held c.take_in-more.ensures.end room.end (AreBytes-take more rest fits) in
          appended_is _ _ _ _ ((take done bytes ++ []) ++ take more rest) (take (done + more) bytes) (ap (λ (xs : List ℕ). xs ++ take more rest) (append-nil (take done bytes)) ∙ fronts_join done more bytes)
          (appended_join _ _ _ _ _ _ (take done bytes ++ []) (take more rest) so_far taken);
      others = λ told. others_join _ _ _ (c.loop-done.invariant.others told) (c.make_room.ensures.others told);
      counts = record {
        reads = c.in_ok-make_room.ensures.counts.reads ∙ c.loop-done.invariant.counts.reads;
        writes = c.in_ok-make_room.ensures.counts.writes ∙ c.loop-done.invariant.counts.writes;
      };
    }

pub returns-clause-appended : goal.returns-clause-appended
returns-clause-appended g c = λ told. appended_is _ _ _ _ (take c.loop-done.done c.args.bytes.now) c.args.bytes.now (take_all c.loop-done.done c.args.bytes.now (omega arith)) (c.loop-done.invariant.appended told)
