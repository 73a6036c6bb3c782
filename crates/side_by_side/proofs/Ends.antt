-- Where clients begin, and where they end.
use Rattle.std.proofs.Common.{◌≡◌, ℕ, suc, ◌<◌, true, false, List, [], ◌∷◌, Option, Some, None, length, inl, inr, refl, sym, ap, subst, ◌∙◌, arith}
use Rattle.std.specs.Prelude.{◌⊎◌}
use Rattle.zb_ids.specs.declared.stamp.Stamp.{Stamp}
use Rattle.zb_model.specs.declared.data.Transaction.{Transaction}
use Rattle.zb_model.specs.StayLaws.{stays_same}
use Rattle.zb_model.specs.Stores.{StoreState}
use Rattle.zb_script.specs.declared.line.Turn.{Turn}
use Rattle.zb_volume.specs.declared.areas.Area.TheVariants.{Main, Side}
use Rattle.zb_volume.specs.Moments.{Leaves, LeavesOnly, here}
use Rattle.zodb_core.specs.HubState.{counts_of}
use Rattle.client_turns.specs.declared.errors.TurnError.{TurnError}
use Rattle.client_turns.specs.Clients.{first_moment}
use Rattle.client_turns.specs.Standing.{ClientsState, StandsForMoment}
use Rattle.zeo_server.specs.declared.playing.Taken.{Taken}
use Rattle.zeo_server.specs.Runs.{IsReached, here as reached_here, more as reached_more}
use Rattle.side_by_side.specs.declared.turns.PlayedTurn.{PlayedTurn}
use Rattle.side_by_side.specs.Orders.{ClientLeft, are_done, is_done}
use Rattle.side_by_side.specs.Plays.{IsPlay, IsPlayed, PlayStart, count_left, has_faulted, has_starved, play_start, play_state}
use Rattle.side_by_side.specs.RunLaws.{of_run_first}
use Rattle.side_by_side.specs.Runs.{IsOfRun}

-- ---- the beginning

pub starts : {R F : Type 0} (told lasts : Type 0) (stands : List ℕ → List Transaction → Type 0) (store : StoreState) (clients : ClientsState R F) (stamps left : Option (List Stamp)) (lines : List ClientLeft)
    → store.broken ≡ false → clients.hub.store ≡ store → left ≡ stamps
    → (told → (ss : Option (List Stamp)) → StandsForMoment clients ss (first_moment store.list ss (counts_of store)))
    → (lasts → store.broken ≡ false → Leaves Main (λ bytes. stands bytes store.list) store.log)
    → IsPlay told lasts stands (play_start store stamps lines) (play_state clients left lines [] None)
starts told lasts stands store clients stamps left lines whole same given stand lasting =
    let m = first_moment store.list stamps (counts_of store) in
    let P = IsOfRun stands m [] [] [] m in
    record {
      whole = λ none. ap (λ (s : StoreState). s.broken) same ∙ whole;
      reads = rw same (omega arith);
      faults = rw same (omega arith);
      failed = λ is. absurd cc;
      others = λ other. ap (λ (s : StoreState). s.faults) same;
      quiet = λ none. none;
      side = λ known none. stays_same Side store.log clients.hub.store.log (ap (λ (s : StoreState). s.log) same);
      came = λ known. record {
        turns = [];
        broken = [];
        number = [];
        order = refl;
        alone = λ none. refl;
        behind = m;
        out = refl;
        served = tt;
        now = m;
        ends = (refl, refl);
        stands_for = subst (λ (ss : Option (List Stamp)). StandsForMoment clients ss m) (sym given) (stand known stamps);
        around = λ is. absurd cc;
        moments = λ lasts.
            subst (λ (s : StoreState). LeavesOnly Main P store.log s.log) (sym same)
            (here (λ image left. of_run_first stands m [] image (lasting lasts whole image left)));
      };
    }

-- ---- the end

-- what each turn keeps holds at the end
pub reached_keeps : {P : Type 0} {takes : P → ℕ → Taken → P → Type 0} (p q : P) → IsReached takes p q → (keeps : P → Type 0) → keeps p → ((r s : P) (n : ℕ) (t : Taken) → takes r n t s → keeps r → keeps s) → keeps q
reached_keeps p q (reached_here o) keeps first step = first
reached_keeps p r (reached_more o q s n t reached last) keeps first step = step q r n t last (reached_keeps p q reached keeps first step)

done_none : (turns : List Turn) → length turns ≡ 0 → is_done turns ≡ true
done_none [] none = refl
done_none (t ∷ turns) none = absurd (omega (arith, none))

all_done : (lines : List ClientLeft) → ((n : ℕ) → n < length lines → count_left lines n ≡ 0) → are_done lines ≡ true
all_done [] none = refl
all_done (c ∷ lines) none = rw (done_none c.left (none 0 (omega arith))) (all_done lines (λ n within. none (suc n) (omega (arith, within))))

pub ends : {R F : Type 0} (told lasts : Type 0) (stands : List ℕ → List Transaction → Type 0) (b : PlayStart) (clients : ClientsState R F) (stamps : Option (List Stamp)) (lines : List ClientLeft) (taken : List PlayedTurn) (ended : Option TurnError)
    (new : StoreState) → new ≡ clients.hub.store
    → IsPlay told lasts stands b (play_state clients stamps lines taken ended)
    → (has_faulted ended ≡ true) ⊎ (has_starved ended ≡ true) ⊎ ((n : ℕ) → n < length lines → count_left lines n ≡ 0)
    → IsPlayed told lasts stands b new stamps taken ended
ends told lasts stands b clients stamps lines taken ended new same is over =
    subst (λ (s : StoreState). IsPlayed told lasts stands b s stamps taken ended) (sym same) (record {
      reads = is.reads;
      faults = is.faults;
      failed = is.failed;
      others = is.others;
      side = is.side;
      came = λ here. let c = is.came here in record {
        turns = c.turns;
        broken = c.broken;
        number = c.number;
        left = lines;
        order = c.order;
        alone = c.alone;
        done = λ none. all_taken ended none over;
        behind = c.behind;
        out = c.out;
        served = c.served;
        now = c.now;
        ends = c.ends;
        stamps_left = sym c.stands_for.stamps;
        counts = sym c.stands_for.counts;
        failed = c.stands_for.hub.failed;
        list = c.stands_for.hub.list;
        around = c.around;
        moments = c.moments;
      };
    })
  where
    all_taken : (ended : Option TurnError) → ended ≡ None → (has_faulted ended ≡ true) ⊎ (has_starved ended ≡ true) ⊎ ((n : ℕ) → n < length lines → count_left lines n ≡ 0) → are_done lines ≡ true
    all_taken None none (inl failed) = absurd cc
    all_taken None none (inr (inl starved)) = absurd cc
    all_taken None none (inr (inr left)) = all_done lines left
    all_taken (Some why) none over = absurd cc
