-- What views see behind a pack. Source: `pack` of ZODB's FileStorage.
use Rattle.std.specs.Prelude.{◌≡◌, ℕ, ◌<◌, List, Option, Some, None, Bool, true, IsTrue}
use Rattle.std.specs.Option.{ForSome, option_map}
use Rattle.std.specs.FinSet.{contains}
use Rattle.zb_model.specs.declared.data.Transaction.{Transaction}
use Rattle.pack_reach.specs.Laws.{IsLedTo, state_content}
use Rattle.pack_reach.specs.Packed.{kept}
use Rattle.zodb_core.specs.declared.reply.Reply.{Reply}
use Rattle.zodb_core.specs.declared.request.Request.{Request}
use Rattle.zodb_core.specs.declared.request.Request.TheVariants as request
use Rattle.zodb_core.specs.Machine.{OpenPack}
use Rattle.zodb_core.specs.Outcomes.{is_packed}
use Rattle.zodb_core.specs.Steps.{pack_tid}

-- Above a tid each object that a pack up to there keeps has the content in the packed list that it had, none counting as nothing; and where it collects, every object
-- that references lead to from the root is kept.
pub record KeepsViews (collects : Bool) (named : List ℕ → Option (List ℕ)) (t : ℕ) (list packed : List Transaction) : Type 0 where
  pub contents : (front oid : ℕ) → t < front → IsTrue (contains (kept collects named t list) oid) → state_content oid front packed ≡ state_content oid front list
  pub reached : collects ≡ true → (front oid : ℕ) → t < front → IsLedTo named front list oid → IsTrue (contains (kept collects named t list) oid)

-- how far a pack goes, and whether objects that nothing leads to go too
pub record PackGoal : Type 0 where
  pub tid : ℕ
  pub collects : Bool

-- that of the open pack
abbrev pub goal_of_pack : OpenPack → PackGoal
goal_of_pack p = record { tid = p.tid; collects = p.collects }

abbrev pub goal_of_open : Option OpenPack → Option PackGoal
goal_of_open pack = option_map goal_of_pack pack

-- what a request packs: the list, up to a tid that it names, or as the open pack goes on
abbrev pub pack_goal : Request → List Transaction → Option PackGoal → Option PackGoal
pack_goal (request.Pack tid collect) list open_goal = Some (record { tid = pack_tid tid list; collects = collect })
pack_goal request.PackTurn list open_goal = open_goal
pack_goal _ list open_goal = None

-- a step that packed the list keeps what views above the pack's tid see
abbrev pub KeepsSeen : (List ℕ → Option (List ℕ)) → Option PackGoal → Request → Reply → List Transaction → List Transaction → Type 0
KeepsSeen named open_goal q r list now = is_packed r ≡ true → ForSome (pack_goal q list open_goal) (λ g. KeepsViews g.collects named g.tid list now)
