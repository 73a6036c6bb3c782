-- News that is pushed piece by piece.
use Rattle.std.proofs.Common.{◌≡◌, ◌≢◌, ℕ, false, true, List, [], ◌++◌, Option, ap, sym, ◌∙◌, refl, subst, append-nil, append_assoc}
use Rattle.std.specs.Io.KnownBytes.{Appends}
use Rattle.std.proofs.KnownBytes.{Appends-nil, Appends-trans}
use mathlib.Core.List.{IsPrefix}
use Rattle.zb_model.specs.declared.data.Transaction.{Transaction}
use Rattle.zb_model.specs.declared.news.News.{News}
use Rattle.zb_outside.specs.Written.{AppendsPrefix}
use Rattle.zb_outside.specs.WrittenLaws.{all_front, last_front}
use Rattle.zodb_core.specs.Machine.{Rules, is_open_in}
use Rattle.hub_shared.specs.declared.heard.Heard.TheVariants as heard
use Rattle.hub_shared.specs.Calls.{HasHeard}
use Rattle.hub_shared.specs.Seats.{Listening, machine_of}
use Rattle.zeo_news.specs.Notices.{news_text}
use Rattle.zeo_server.specs.declared.pushing.PushEnd.{PushEnd}
use Rattle.zeo_server.specs.declared.pushing.PushEnd.TheVariants.{Over, LinkFault, Memory}
use Rattle.zeo_server.specs.Pushes.{AreTold, none, more, HasPushed}

pub prefix_trans : {A : Type 0} (xs ys zs : List A) → IsPrefix xs ys → IsPrefix ys zs → IsPrefix xs zs
prefix_trans xs ys zs p q = (p.0 ++ q.0, sym (append_assoc xs p.0 q.0) ∙ (ap (λ w. w ++ q.0) p.1 ∙ q.1))

-- the sink took all that was told so far
pub record Pushes (rules : Rules) (list : List Transaction) (old new : Listening) (before after : Option (List ℕ)) : Type 0 where
  pub text : List ℕ
  pub told : AreTold rules list old text new
  pub taken : Appends before after text

pub nothing_pushed : (rules : Rules) (list : List Transaction) (ear : Listening) (known : Option (List ℕ)) → Pushes rules list ear ear known known
nothing_pushed rules list ear known = record { text = []; told = none; taken = Appends-nil known }

module _ (rules : Rules) (list : List Transaction) (old ear next : Listening) (a b c : Option (List ℕ)) where
  pub more_pushed : (news : News) (front : ℕ) → Pushes rules list old ear a b → IsPrefix ear.seen next.seen → next.session ≡ ear.session
      → HasHeard rules list ear next (heard.News news front) → Appends b c (news_text front news) → Pushes rules list old next a c
  more_pushed news front so_far begins session heard taken = record {
    text = so_far.text ++ news_text front news;
    told = more so_far.text ear next news front so_far.told begins session heard;
    taken = Appends-trans a b c so_far.text (news_text front news) so_far.taken taken;
  }

  -- a piece was sent in part
  pub piece_failed : (news : News) (front : ℕ) (end : PushEnd) → end ≢ Over → Pushes rules list old ear a b → IsPrefix ear.seen next.seen → next.session ≡ ear.session → ear.session ≡ old.session
      → HasHeard rules list ear next (heard.News news front) → AppendsPrefix b c (news_text front news) → HasPushed rules list old next end a c
  piece_failed news front Over ends so_far begins session same heard taken = absurd (ends refl)
  piece_failed news front LinkFault ends so_far begins session same heard taken = record {
    text = so_far.text ++ news_text front news;
    last = next;
    told = more so_far.text ear next news front so_far.told begins session heard;
    begins = ([], append-nil next.seen);
    length_is = refl;
    taken = last_front a b c (so_far.text ++ news_text front news) (news_text front news) (news_text front news) (record { front = so_far.text; split = refl; appended = so_far.taken }) refl taken;
    ends = subst (λ (s : ℕ). is_open_in (machine_of rules list next.seen).sessions s ≡ true) same heard.0;
  }
  piece_failed news front Memory ends so_far begins session same heard taken = record {
    text = so_far.text ++ news_text front news;
    last = next;
    told = more so_far.text ear next news front so_far.told begins session heard;
    begins = ([], append-nil next.seen);
    length_is = refl;
    taken = last_front a b c (so_far.text ++ news_text front news) (news_text front news) (news_text front news) (record { front = so_far.text; split = refl; appended = so_far.taken }) refl taken;
    ends = tt;
  }

  -- the session isn't open
  pub over_pushed : Pushes rules list old ear a b → IsPrefix ear.seen next.seen → ear.session ≡ old.session → HasHeard rules list ear next heard.Over → HasPushed rules list old next Over a b
  over_pushed so_far begins same heard = record {
    text = so_far.text;
    last = ear;
    told = so_far.told;
    begins = begins;
    length_is = heard.1;
    taken = so_far.taken;
    ends = subst (λ (s : ℕ). is_open_in (machine_of rules list next.seen).sessions s ≡ false) same heard.0;
  }

  -- nothing was heard for want of memory
  pub none_heard : Pushes rules list old ear a b → IsPrefix ear.seen next.seen → HasHeard rules list ear next heard.Memory → HasPushed rules list old next Memory a b
  none_heard so_far begins heard = record {
    text = so_far.text;
    last = ear;
    told = so_far.told;
    begins = begins;
    length_is = heard;
    taken = all_front a b so_far.text so_far.taken;
    ends = tt;
  }
