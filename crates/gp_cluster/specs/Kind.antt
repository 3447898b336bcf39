-- The five messages by direction and number (Zigbee PRO Green Power, A.3.3.4 and A.3.3.5).
use Rattle.std.specs.Prelude.{ℕ, ◌==◌, Bool, true, false, [], ◌∷◌, Option}
use Rattle.gp_base.specs.Table.{first_of}
use Rattle.gp_cluster.specs.declared.kind.Kind.{Kind}
use Rattle.gp_cluster.specs.declared.kind.Kind.TheVariants.{Notification, CommissioningNotice, Pairing, ProxyMode, Response}
use Rattle.gp_cluster.specs.declared.message.Cluster.{Cluster}
use Rattle.gp_cluster.specs.declared.message.Cluster.TheVariants as messages

-- the message with this direction (whether it comes from a sink) and this number
abbrev pub kind_of : Bool → ℕ → Option Kind
kind_of false command = first_of ((command == 0, Notification) ∷ (command == 4, CommissioningNotice) ∷ [])
kind_of true command = first_of ((command == 1, Pairing) ∷ (command == 2, ProxyMode) ∷ (command == 6, Response) ∷ [])

-- its direction
abbrev pub is_from_sink : Kind → Bool
is_from_sink Notification = false
is_from_sink CommissioningNotice = false
is_from_sink Pairing = true
is_from_sink ProxyMode = true
is_from_sink Response = true

-- its number
abbrev pub command_number : Kind → ℕ
command_number Notification = 0
command_number CommissioningNotice = 4
command_number Pairing = 1
command_number ProxyMode = 2
command_number Response = 6

-- which of the five a message is
abbrev pub kind_in : Cluster → Kind
kind_in (messages.Notification m) = Notification
kind_in (messages.CommissioningNotice m) = CommissioningNotice
kind_in (messages.Pairing m) = Pairing
kind_in (messages.ProxyMode m) = ProxyMode
kind_in (messages.Response m) = Response
