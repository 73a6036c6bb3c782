-- What a crash leaves of Main while a transaction is voted, finished or aborted.
use Rattle.std.proofs.Common.{◌≡◌, ◌⊎◌, inl, inr, ⊎_elim, ℕ, ◌+◌, ◌<◌, ◌≤◌, List, [], ◌∷◌, ◌++◌, length, get_or, set, take, drop, sym, ◌∙◌, ap, subst, arith, add-one}
use Rattle.std.proofs.lemmas.List.{ext_get_or, get_or-take, get_or-drop, get_or-append-add, get_or_past, get_or-set_other, length-append, length-take, length-set, take_all, take_at, take-take, take-append-drop, append_assoc, set_split}
use Rattle.std.proofs.lemmas.Bool.{cases_eq, cases_lt}
use Rattle.zb_volume.specs.declared.areas.Area.TheVariants.{Main}
use Rattle.zb_volume.specs.Calls.{Event}
use Rattle.zb_volume.specs.Disk.{seen, written, IsSettled}
use Rattle.zb_volume.specs.Images.{IsImage, CrashLeavesWith}
use Rattle.zb_volume.specs.Moments.{LeavesOnly}
use Rattle.zb_volume.specs.Lasting.{settled_mix, written_end}
use Rattle.zb_volume.specs.Runs.{leaves_less}
use Rattle.fs_records.specs.Blocks.{Reached, Begins}
use Rattle.fs_append.specs.Fronts.{front_kept}
use Rattle.fs_append.specs.Appending.{HasFront, IsStillRead, IsVote, IsVoted}
use Rattle.fs_append.specs.Rests.{IsUnfinished, rest_stands}

-- ---- one content more over settled bytes: each byte of a mix is the old one or the new one

module _ (old new c : List ℕ) (image : IsImage old (new ∷ []) c) where
  either_byte : (k : ℕ) → k < length c → (get_or c k 0 ≡ get_or old k 0) ⊎ (get_or c k 0 ≡ get_or new k 0)
  either_byte k h = ⊎_elim (λ was. inl was) (λ had. ⊎_elim (λ is. inr is.1) (λ none. absurd none) had) (image.bytes k h)

-- both begin with the same bytes, and behind them neither is finished
module _ (s : Reached) (old new c : List ℕ) (begins : Begins old s) (old_long : s.end ≤ length old) (new_long : s.end ≤ length new) (same : take s.end new ≡ take s.end old)
    (old_status : IsUnfinished (get_or old (s.end + 16) 0)) (new_status : IsUnfinished (get_or new (s.end + 16) 0)) (image : IsImage old (new ∷ []) c) where
  long : s.end ≤ length c
  long = omega (arith, image.no_shorter)

  same_byte : (k : ℕ) → k < s.end → get_or new k 0 ≡ get_or old k 0
  same_byte k h = sym (get_or-take s.end new k 0 h) ∙ ap (λ (l : List ℕ). get_or l k 0) same ∙ get_or-take s.end old k 0 h

  front : take s.end c ≡ take s.end old
  front = ext_get_or 0 (take s.end c) (take s.end old)
      (omega (arith, length-take s.end c, length-take s.end old, long, old_long))
      (λ k h. let within : k < s.end = omega (arith, length-take s.end c, h) in
      get_or-take s.end c k 0 within
      ∙ ⊎_elim (λ was. was) (λ is. is ∙ same_byte k within) (either_byte old new c image k (omega (arith, long, within)))
      ∙ sym (get_or-take s.end old k 0 within))

  status : IsUnfinished (get_or c (s.end + 16) 0)
  status = elim (cases_lt (s.end + 16) (length c)) [
    | inl within ↦ (elim (either_byte old new c image (s.end + 16) within) [
      | inl was ↦ subst IsUnfinished (sym was) old_status
      | inr is ↦ subst IsUnfinished (sym is) new_status
    ])
    | inr past ↦ inr (get_or_past c (s.end + 16) 0 past)
  ]

  pub mix_stands : IsStillRead s c
  mix_stands =
      let parts : take s.end old ++ drop s.end c ≡ c = ap (λ (l : List ℕ). l ++ drop s.end c) (sym front) ∙ take-append-drop s.end c in
      subst (IsStillRead s) parts (rest_stands old s (drop s.end c) begins (subst IsUnfinished (sym (get_or-drop s.end c 16 0)) status))

written_front : (old text : List ℕ) (end : ℕ) → end ≤ length old → take end (written old end text) ≡ take end old
written_front old text end within =
    ap (take end) (append_assoc (take end old) text (drop (end + length text) old)) ∙ take_at (take end old) (text ++ drop (end + length text) old) end (omega (arith, length-take end old, within))

written_long : (old text : List ℕ) (end : ℕ) → end ≤ length old → end ≤ length (written old end text)
written_long old text end within =
    omega (arith, length-append (take end old ++ text) (drop (end + length text) old), length-append (take end old) text, length-take end old, within)

pub vote_front : (old new : List Event) (end : ℕ) (text : List ℕ) → end ≤ length (seen old Main) → IsSettled old Main
    → LeavesOnly Main (CrashLeavesWith old Main (written (seen old Main) end text)) old new → LeavesOnly Main (HasFront end (seen old Main)) old new
vote_front old new end text within settled = leaves_less Main _ (HasFront end (seen old Main)) old new
    (settled_mix old Main _ (HasFront end (seen old Main)) settled (λ c image. front_kept end (seen old Main) (written (seen old Main) end text) c within (written_long (seen old Main) text end within) (written_front (seen old Main) text end within) image))

pub abort_front : (old new : List Event) (end : ℕ) → end ≤ length (seen old Main) → IsSettled old Main
    → LeavesOnly Main (CrashLeavesWith old Main (take end (seen old Main))) old new → LeavesOnly Main (HasFront end (seen old Main)) old new
abort_front old new end within settled = leaves_less Main _ (HasFront end (seen old Main)) old new
    (settled_mix old Main _ (HasFront end (seen old Main)) settled
    (λ c image. front_kept end (seen old Main) (take end (seen old Main)) c within (omega (arith, length-take end (seen old Main), within)) (take-take end end (seen old Main) (omega arith)) image))

-- ---- a vote

vote_mix : (s : Reached) (old text : List ℕ) (end : ℕ) → Begins old s → s.end ≡ end → length old ≡ end → get_or text 16 0 ≡ 99 → (c : List ℕ) → IsImage old (written old end text ∷ []) c → IsStillRead s c
vote_mix s old text end begins end_is whole voted c =
    let new = written old end text in
    let is : new ≡ old ++ text = written_end old text end whole in
    let place : s.end + 16 ≡ length old + 16 = omega arith in
    mix_stands s old new c begins (omega arith) (omega (arith, ap length is, length-append old text))
    (ap (take s.end) is ∙ take_at old text s.end (omega arith) ∙ sym (take_all s.end old (omega arith)))
    (inr (get_or_past old (s.end + 16) 0 (omega arith)))
    (inl (ap (λ (l : List ℕ). get_or l (s.end + 16) 0) is ∙ ap (λ (n : ℕ). get_or (old ++ text) n 0) place ∙ get_or-append-add old text 16 0 ∙ voted))

pub vote_leaves : (old new : List Event) (s : Reached) (end : ℕ) (text : List ℕ) → IsVote old s end text
    → LeavesOnly Main (CrashLeavesWith old Main (written (seen old Main) end text)) old new → LeavesOnly Main (IsStillRead s) old new
vote_leaves old new s end text vote = leaves_less Main _ (IsStillRead s) old new
    (settled_mix old Main _ (IsStillRead s) vote.settled (vote_mix s (seen old Main) text end vote.stands.begins vote.end_is vote.whole vote.status))

-- ---- an abort

abort_mix : (s : Reached) (old : List ℕ) (end : ℕ) → Begins old s → s.end ≡ end → end ≤ length old → get_or old (end + 16) 0 ≡ 99 → (c : List ℕ) → IsImage old (take end old ∷ []) c → IsStillRead s c
abort_mix s old end begins end_is within voted c =
    let place : s.end + 16 ≡ end + 16 = omega arith in
    mix_stands s old (take end old) c begins (omega arith) (omega (arith, length-take end old))
    (take-take s.end end old (omega arith))
    (inl (ap (λ (n : ℕ). get_or old n 0) place ∙ voted))
    (inr (get_or_past (take end old) (s.end + 16) 0 (omega (arith, length-take end old))))

pub abort_leaves : (old new : List Event) (s : Reached) (end : ℕ) → end ≤ length (seen old Main) → IsVoted old s end
    → LeavesOnly Main (CrashLeavesWith old Main (take end (seen old Main))) old new → LeavesOnly Main (IsStillRead s) old new
abort_leaves old new s end within voted = leaves_less Main _ (IsStillRead s) old new
    (settled_mix old Main _ (IsStillRead s) voted.settled (abort_mix s (seen old Main) end voted.stands.begins voted.end_is within voted.status))

-- ---- a finish

written_byte : (old : List ℕ) (at v : ℕ) → at < length old → written old at (v ∷ []) ≡ set old at v
written_byte old at v h = append_assoc (take at old) (v ∷ []) (drop (at + 1) old) ∙ ap (λ (n : ℕ). take at old ++ (v ∷ drop n old)) (add-one at) ∙ sym (set_split old at v h)

-- where one byte changes, a mix is the old bytes or the new ones
one_byte : (old : List ℕ) (at v : ℕ) (c : List ℕ) → at < length old → IsImage old (set old at v ∷ []) c → (c ≡ old) ⊎ (c ≡ set old at v)
one_byte old at v c h image = ⊎_elim
    (λ was. inl (ext_get_or 0 c old size (λ k hk. ⊎_elim
    (λ same. same)
    (λ new. ⊎_elim (λ here. subst (λ (n : ℕ). get_or c n 0 ≡ get_or old n 0) (sym here) was) (λ other. new ∙ get_or-set_other old at k v 0 other) (cases_eq k at))
    (either_byte old (set old at v) c image k hk))))
    (λ is. inr (ext_get_or 0 c (set old at v) (size ∙ sym (length-set old at v)) (λ k hk. ⊎_elim
    (λ same. ⊎_elim (λ here. subst (λ (n : ℕ). get_or c n 0 ≡ get_or (set old at v) n 0) (sym here) is) (λ other. same ∙ sym (get_or-set_other old at k v 0 other)) (cases_eq k at))
    (λ new. new)
    (either_byte old (set old at v) c image k hk))))
    (either_byte old (set old at v) c image at (omega (arith, size, h)))
  where
    size : length c ≡ length old
    size = omega (arith, image.no_shorter, image.no_longer, length-set old at v)

pub finish_leaves : (old new : List Event) (at v : ℕ) → at < length (seen old Main) → IsSettled old Main
    → LeavesOnly Main (CrashLeavesWith old Main (written (seen old Main) at (v ∷ []))) old new → LeavesOnly Main (λ image. (image ≡ seen old Main) ⊎ (image ≡ set (seen old Main) at v)) old new
finish_leaves old new at v within settled =
    let text = seen old Main in
    let Q : List ℕ → Type 0 = λ image. (image ≡ text) ⊎ (image ≡ set text at v) in
    leaves_less Main _ Q old new
    (settled_mix old Main _ Q settled (λ c image. one_byte text at v c within (subst (λ (w : List ℕ). IsImage text (w ∷ []) c) (written_byte text at v within) image)))
