-- What a step of one session keeps of the clients of all others. Own.
use Rattle.std.specs.Prelude.{◌≡◌, ◌≢◌, ℕ, Option, length}
use Rattle.connection_view.specs.Views.{View}
use Rattle.connection_view.specs.Views as views
use Rattle.hub_carrier.specs.Ends.{machine_at}
use Rattle.local_loads.specs.declared.told.Told.{Told}
use Rattle.local_loads.specs.Local.{MayBeTold}
use Rattle.remote_loads.specs.Standing.{Stands}
use Rattle.zeo_client.specs.Taking.{ClientState}
use Rattle.zeo_desk.specs.Desks.{DeskState}
use Rattle.zodb_core.specs.HubState.{HubState}

-- Behind steps of session n there are as many sessions, a local client may be told what it may have been told before, and who has a link to another session is right
-- for that one as before.
pub record KeepsOthers {R F : Type 0} (n : ℕ) (old new : HubState R F) : Type 0 where
  pub count : length new.sessions ≡ length old.sessions
  pub near : (last : Option Told) (told known : View) → MayBeTold last old told known → MayBeTold last new told known
  pub far : (k : ℕ) → k ≢ n → (d : DeskState) (x : ClientState) (told : views.Client) → Stands (machine_at old) k d x told → Stands (machine_at new) k d x told
