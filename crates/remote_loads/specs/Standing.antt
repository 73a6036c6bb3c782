-- Which client may be the one at a link whose carrier tells. Own.
use Rattle.std.specs.Prelude.{◌≡◌, ℕ, Option, Some, None, true}
use Rattle.connection_view.specs.Views.{Client}
use Rattle.zodb_core.specs.Machine.{Machine}
use Rattle.zeo_desk.specs.Desks.{DeskState}
use Rattle.zeo_serving.specs.Serving.{MayBeServed}
use Rattle.zeo_client.specs.declared.error.ClientError.{ClientError}
use Rattle.zeo_client.specs.declared.error.ClientError.TheVariants as error
use Rattle.zeo_client.specs.Taking.{ClientState}
use Rattle.zeo_client.specs.Whole.{ready}

-- why a client takes no more: for nothing but want of memory
abbrev pub IsWayEnd : Option ClientError → Type 0
IsWayEnd None = Unit {0}
IsWayEnd (Some error.Memory) = Unit {0}
IsWayEnd (Some _) = ⊥

-- between two calls: the desk has a client that registered, and while the client takes more, no byte of a frame has come
pub record IsAtRest (d : DeskState) (client : ClientState) : Type 0 where
  pub registered : d.registered ≡ true
  pub end : IsWayEnd client.ended
  pub reading : client.ended ≡ None → client.reading ≡ ready

-- a client of a session of this machine, whose desk stands so
pub record Stands (m : Machine) (n : ℕ) (d : DeskState) (client : ClientState) (c : Client) : Type 0 where
  pub served : MayBeServed m n client.held.standing client.held.cache.entries c
  pub rest : IsAtRest d client
