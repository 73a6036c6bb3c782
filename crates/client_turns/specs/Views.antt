-- What a machine is to a connection. Source: MVCC of ZODB, where a connection reads the state just before one transaction.
use Rattle.zodb_core.specs.Machine.{Machine, switches_of}
use Rattle.connection_view.specs.Views.{Server}

-- a machine as connections see it: its list, how often that was packed, and the greatest number of an object
abbrev pub server_of : Machine → Server
server_of m = record { list = m.list; switches = switches_of m.journal; greatest = m.greatest }
