-- What a link is sent of the news of its session. Own.
use Rattle.std.specs.Prelude.{◌≡◌, ℕ, true, false, List, [], ◌++◌, Option}
use Rattle.std.specs.Io.KnownBytes.{Appends}
use mathlib.Core.List.{IsPrefix}
use Rattle.zb_model.specs.declared.data.Transaction.{Transaction}
use Rattle.zb_model.specs.declared.news.News.{News}
use Rattle.zb_outside.specs.Written.{AppendsPrefix}
use Rattle.zodb_core.specs.Machine.{Machine, Rules, is_open_in}
use Rattle.hub_shared.specs.declared.heard.Heard.TheVariants as heard
use Rattle.hub_shared.specs.Calls.{HasHeard}
use Rattle.hub_shared.specs.Seats.{Listening, machine_of}
use Rattle.zeo_news.specs.Notices.{news_text}
use Rattle.zeo_server.specs.declared.pushing.PushEnd.{PushEnd}
use Rattle.zeo_server.specs.declared.pushing.PushEnd.TheVariants.{Over, LinkFault, Memory}

-- An ear heard one piece of the journal after another, each from where the one before it ended to the end of the journal behind the history that
-- it had then seen, and these bytes tell the news of all of them, each with the front at which it was heard.
pub data AreTold (rules : Rules) (list : List Transaction) (start : Listening) : List ℕ → Listening → Type 0 where
  none : AreTold rules list start [] start
  more : (text : List ℕ) (ear next : Listening) (news : News) (front : ℕ) → AreTold rules list start text ear → IsPrefix ear.seen next.seen
      → next.session ≡ ear.session → HasHeard rules list ear next (heard.News news front) → AreTold rules list start (text ++ news_text front news) next

-- what the sink took of these bytes: all where the session isn't open, else a front of them
abbrev pub Takes : PushEnd → Option (List ℕ) → Option (List ℕ) → List ℕ → Type 0
Takes Over old new text = Appends old new text
Takes LinkFault old new text = AppendsPrefix old new text
Takes Memory old new text = AppendsPrefix old new text

-- whether the session is open where it ended
abbrev pub IsEndAt : Machine → ℕ → PushEnd → Type 0
IsEndAt m session Over = is_open_in m.sessions session ≡ false
IsEndAt m session LinkFault = is_open_in m.sessions session ≡ true
IsEndAt m session Memory = Unit {0}

-- What was sent of the news of an ear's session: of the journal from as much as the ear was told to as much as it was told then. It may have seen
-- more of the history behind the last news.
pub record HasPushed (rules : Rules) (list : List Transaction) (old new : Listening) (end : PushEnd) (before after : Option (List ℕ)) : Type 0 where
  pub text : List ℕ
  pub last : Listening
  pub told : AreTold rules list old text last
  pub begins : IsPrefix last.seen new.seen
  pub length_is : new.told ≡ last.told
  pub taken : Takes end before after text
  pub ends : IsEndAt (machine_of rules list new.seen) old.session end
