-- What a call of a remote client keeps, whatever it answers, and why it is refused. Own.
use Rattle.std.specs.Prelude.{◌≡◌, ◌≤◌, ℕ, Bool, IfErr, Result}
use Rattle.std.specs.Borrow.{MutBor}
use Rattle.zb_model.specs.declared.refusal.Refusal.{Refusal}
use Rattle.zeo_client.specs.Taking.{ClientState}
use Rattle.remote_loads.specs.Causes.{IsRemoteRefusal}

-- The same client has the same way to its session as before, and what holds of a way and of itself later on holds.
pub record KeepsWay {W N P : Type 0} (session_of : W → ℕ) (place_of : W → P) (is_later : W → W → Type 0) (old new : W) (name now : N) : Type 0 where
  pub client_place : now ≡ name
  pub session : session_of new ≡ session_of old
  pub inner_place : place_of new ≡ place_of old
  pub later : is_later old new

-- A call keeps the way of its client; neither the count of faults nor the front that is known falls, and a refusal has its cause in the way or is a server's.
pub record GoesItsWay {W P T : Type 0} (faults_of : W → ℕ) (closed_of : W → Bool) (session_of : W → ℕ) (place_of : W → P) (is_later : W → W → Type 0) (old new : W) (client left : MutBor ClientState) (result : Result T Refusal) : Type 0 where
  pub refused : IfErr result (IsRemoteRefusal (faults_of old) (faults_of new) (closed_of new) left.now.ended)
  pub counted : faults_of old ≤ faults_of new
  pub known : client.now.held.standing.known ≤ left.now.held.standing.known
  pub keeps : KeepsWay session_of place_of is_later old new client.ghost_name left.ghost_name
