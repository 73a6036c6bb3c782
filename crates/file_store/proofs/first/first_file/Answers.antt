use Rattle.std.proofs.Common.{◌≡◌, ◌<◌, ◌++◌, [], length, ℕ, List, refl, sym, ap, subst, ◌∙◌}
use Rattle.std.proofs.Math.ListN.{set}
use Rattle.zb_ids.specs.Tids.{stamp_number}
use Rattle.zb_model.specs.Creation.{first_transaction as first_by}
use Rattle.fs_records.specs.Blocks.{magic}
use Rattle.pack_copy.specs.Renewing.{anew}
use Rattle.file_store.specs.Kept.{IsKept}
use Rattle.file_store.specs.First.{file_with}
use Rattle.file_store.proofs.Commits.{are_bytes, room_for}
use Rattle.file_store.proofs.Creating.{committed_is, first_above, first_kept, first_stands, first_text, new_well_formed, nexts_of, nothing_before, text_behind_16}
use Rattle.file_store.proofs.first.first_file.Goals as goal

pub new-index-requires-clause-up_to : goal.new-index-requires-clause-up_to
new-index-requires-clause-up_to c = nothing_before c.new-places.result c.new-places.ensures.objects c.new-places.ensures.transactions

pub prepare-requires-clause-above : goal.prepare-requires-clause-above
prepare-requires-clause-above c =
    first_above (stamp_number c.args.clock) c.new-index.result c.new-places.result c.in_ok-new.new c.new-index.ensures (c.in_ok-new.ensures.value ∙ ap anew c.in_ok-first_transaction.ensures.value)

pub prepare-requires-clause-well_formed : goal.prepare-requires-clause-well_formed
prepare-requires-clause-well_formed c =
    new_well_formed (stamp_number c.args.clock) _ _ c.in_ok-first_transaction.ensures.value c.in_ok-first_transaction.ensures.bound c.in_ok-new.ensures.value

pub committed-requires : goal.committed-requires
committed-requires c =
    let p = c.in_ok-vote.ensures.prepared in
    let new_is = c.in_ok-new.ensures.value ∙ ap anew c.in_ok-first_transaction.ensures.value in
    let text = first_text (first_by (stamp_number c.args.clock)) c.new-index.result c.prepare.new.index c.prepare.new.numbers c.new-places.result c.in_ok-new.new c.in_ok-vote.vote c.new-index.ensures c.new-places.ensures.objects new_is p in
    subst (λ (xs : List ℕ). 16 < length xs) (sym (c.as_slice.ensures.value ∙ text)) (text_behind_16 99 [] (anew (first_by (stamp_number c.args.clock))))

pub count_staged-requires : goal.count_staged-requires
count_staged-requires c =
    let p = c.in_ok-vote.ensures.prepared in
    room_for c.prepare.new.numbers c.prepare.new.index.staged c.new-index.result c.in_ok-new.new c.in_ok-vote.vote p.staged_is p.room

pub returns-clause-value : goal.returns-clause-value
returns-clause-value c =
    let p = c.in_ok-vote.ensures.prepared in
    let new_is = c.in_ok-new.ensures.value ∙ ap anew c.in_ok-first_transaction.ensures.value in
    let text = first_text (first_by (stamp_number c.args.clock)) c.new-index.result c.prepare.new.index c.prepare.new.numbers c.new-places.result c.in_ok-new.new c.in_ok-vote.vote c.new-index.ensures c.new-places.ensures.objects new_is p in
    c.in_ok-bytes.ensures ∙ ap (λ (x : List ℕ). magic ++ set x 16 32) c.as_slice.ensures.value ∙ committed_is (first_by (stamp_number c.args.clock)) c.in_ok-vote.vote _ text refl

pub returns-clause-stands : goal.returns-clause-stands
returns-clause-stands c =
    let p = c.in_ok-vote.ensures.prepared in
    let new_is = c.in_ok-new.ensures.value ∙ ap anew c.in_ok-first_transaction.ensures.value in
    let text = first_text (first_by (stamp_number c.args.clock)) c.new-index.result c.prepare.new.index c.prepare.new.numbers c.new-places.result c.in_ok-new.new c.in_ok-vote.vote c.new-index.ensures c.new-places.ensures.objects new_is p in
    let file : c.in_ok-bytes.bytes ≡ file_with (first_by (stamp_number c.args.clock)) =
    c.in_ok-bytes.ensures ∙ ap (λ (x : List ℕ). magic ++ set x 16 32) c.as_slice.ensures.value ∙ committed_is (first_by (stamp_number c.args.clock)) c.in_ok-vote.vote _ text refl in
    first_stands (stamp_number c.args.clock) c.new-places.result c.in_ok-bytes.bytes c.new-places.ensures.objects c.new-places.ensures.transactions
    (nexts_of c.new-index.result c.new-places.result c.in_ok-new.new (anew (first_by (stamp_number c.args.clock))) c.new-index.ensures new_is c.in_ok-vote.ensures.next) file

pub returns-clause-kept : goal.returns-clause-kept
returns-clause-kept c =
    let p = c.in_ok-vote.ensures.prepared in
    let new_is = c.in_ok-new.ensures.value ∙ ap anew c.in_ok-first_transaction.ensures.value in
    let same = c.in_ok-bytes.ensures ∙ ap (λ (x : List ℕ). magic ++ set x 16 32) c.as_slice.ensures.value in
    subst (λ (b : List ℕ). IsKept b c.keep.new.self c.count_staged.new.numbers) (sym same)
    (first_kept (stamp_number c.args.clock) c.new-places.result c.new-index.result c.prepare.new.index c.keep.new.self c.new-numbers.result c.prepare.new.numbers c.count_staged.new.numbers c.in_ok-new.new c.in_ok-vote.vote
    c.new-index.ensures c.new-places.ensures.objects c.new-places.ensures.transactions c.new-numbers.ensures new_is p c.in_ok-vote.ensures.next (are_bytes c.in_ok-vote.vote c.as_slice.ensures.bytes)
    c.prepare.ensures.end c.prepare.ensures.newest c.prepare.ensures.places c.prepare.ensures.starts c.prepare.ensures.tallies c.prepare.ensures.greatest c.prepare.ensures.pack_point
    c.keep.ensures.staged (c.keep.ensures.kept _ p.staged_is) (c.count_staged.ensures _ p.staged_is))
