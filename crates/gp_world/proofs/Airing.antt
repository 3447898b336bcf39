-- Whatever is on the air in a run are octets.
use Rattle.std.proofs.Common.{◌≡◌, ℕ, zero, suc, ◌%◌, ◌≤◌, max, Bool, true, false, ◌==◌, cond, if◌then◌else◌, List, [], ◌∷◌, ◌++◌, length, Option, Some, None, refl, sym, subst, arith, slice_get}
use Rattle.std.specs.Str.{bytes_eq}
use Rattle.gp_base.specs.declared.identity.Level.{Level}
use Rattle.gp_base.specs.declared.identity.Level.TheVariants.{Two, Three}
use Rattle.gp_base.specs.Field.{IsOctets}
use Rattle.gp_base.specs.Identity.{is_individual, level_number}
use Rattle.gp_frames.specs.Frame.{level_of, spelling}
use Rattle.gp_security.specs.Protection.{authenticated, message, nonce_of, protected}
use Rattle.gp_script.specs.declared.report.Report.TheVariants as reports
use Rattle.gp_script.specs.declared.script.Event.{Event}
use Rattle.gp_world.specs.Devices.{head_of, sealed, sends, device_presses, device_hears}
use Rattle.gp_world.specs.Properties.{Each, Exact, Verified}
use Rattle.gp_world.specs.Run.{Moment, Run, world_after}
use Rattle.gp_world.specs.Step.{node_hears}
use Rattle.gp_world.specs.World.{World, Powered, Device, Kind, IsSink, IsDevice, Node, Next, Out, out, named, replaced, settled, joined, injected, empty}
use Rattle.gp_world.proofs.Acting.{OnAir, runs-exact}
use Rattle.gp_world.proofs.Asking.{HasOctets, asked-octets}
use Rattle.gp_ccm.specs.Ccm.{encrypted}
use Rattle.gp_world.proofs.Octets.{encrypted-octets, tag-octets, spelling-octets}
use Rattle.gp_world.proofs.Powering.{EachCase, hears-carries, does-carries}
use Rattle.gp_world.proofs.Stepping as came
use Rattle.gp_world.proofs.Stepping.{HasKey, Does, Comes, Stays, Joins, Acts, Injects, comes}
use Rattle.gp_world.proofs.Verifying.{runs-verified}

-- ---- what a device sends

level-small : (level : Level) → level_number level ≤ 3
level-small Two = omega arith
level-small Three = omega arith

body-octets : (three : Bool) (key nonce command : List ℕ) → IsOctets key → IsOctets command → IsOctets (if three then encrypted key nonce (if three then command else []) else command)
body-octets true key nonce command k c = encrypted-octets key nonce command k c
body-octets false key nonce command k c = c

sealed-octets : (device : Device) (counter : ℕ) (command : List ℕ) → IsOctets device.key.0 → IsOctets command → IsOctets (spelling (sealed device counter command))
sealed-octets device counter command k c =
    let head = (head_of device counter).frame in
    let made = (sealed device counter command).frame in
    spelling-octets (device.sent % 256) 0xFFFF 0xFFFF made (record { level = level_number device.level; individual = is_individual device.kind; rx_after = false; to_device = false }) device.source counter
    (protected device.key.0 head command).1 (omega arith) refl (level-small device.level) refl refl
    (body-octets (level_of head == 3) device.key.0 (nonce_of head) command k c) refl
    (tag-octets device.key.0 (nonce_of head) (authenticated head command) (message head command) 4 k)

-- ---- lists of them

abbrev pub EachOctets : List (List ℕ) → Type 0
EachOctets [] = Unit {0}
EachOctets (octets ∷ others) = IsOctets octets × EachOctets others

each_append : (xs ys : List (List ℕ)) → EachOctets xs → EachOctets ys → EachOctets (xs ++ ys)
each_append [] ys h k = k
each_append (x ∷ xs) ys h k = (h.0, each_append xs ys h.1 k)

each_there : (air : List (List ℕ)) (n : ℕ) (octets : List ℕ) → EachOctets air → slice_get air n ≡ Some octets → IsOctets octets
each_there [] n octets h e = absurd cc
each_there (x ∷ air) zero octets h e = let same : x ≡ octets = cc in subst IsOctets same h.0
each_there (x ∷ air) (suc n) octets h e = each_there air n octets h.1 e

-- ---- the keys of devices

abbrev pub HaveKeys : List (List ℕ × Node) → Type 0
HaveKeys [] = Unit {0}
HaveKeys (node ∷ nodes) = HasKey node.1.kind × HaveKeys nodes

keys_found : (name : List ℕ) (node : Node) (nodes : List (List ℕ × Node)) → HaveKeys nodes → named name nodes ≡ Some node → HasKey node.kind
keys_found name node [] h e = absurd cc
keys_found name node (own ∷ nodes) h e = go (bytes_eq own.0 name) e (keys_found name node nodes h.1)
  where
    go : (b : Bool) → (if b then Some own.1 else named name nodes) ≡ Some node → (named name nodes ≡ Some node → HasKey node.kind) → HasKey node.kind
    go true t later = let same : own.1 ≡ node = cc in subst (λ (n : Node). HasKey n.kind) same h.0
    go false t later = later t

keys_replaced : (name : List ℕ) (new : Node) (nodes : List (List ℕ × Node)) → HaveKeys nodes → HasKey new.kind → HaveKeys (replaced name new nodes)
keys_replaced name new [] h k = tt
keys_replaced name new (own ∷ nodes) h k = go (bytes_eq own.0 name) (keys_replaced name new nodes h.1 k)
  where
    go : (b : Bool) → HaveKeys (replaced name new nodes) → HaveKeys (if b then (name, new) ∷ nodes else own ∷ replaced name new nodes)
    go true later = (k, h.1)
    go false later = (h.0, later)

keys_joined : (name : List ℕ) (new : Node) (nodes : List (List ℕ × Node)) → HaveKeys nodes → HasKey new.kind → HaveKeys (nodes ++ (name, new) ∷ [])
keys_joined name new [] h k = (k, tt)
keys_joined name new (own ∷ nodes) h k = (h.0, keys_joined name new nodes h.1 k)

-- ---- one node

-- what a node sends, and its key afterwards
abbrev SendsOctets : Out → Type 0
SendsOctets made = EachOctets made.airs × HasKey made.node

-- a sink sends no frame, whatever it does
cases-send : (bit : Bool) (powered : Powered) → EachCase (λ ruling. Unit {0}) SendsOctets bit powered
cases-send bit powered = record {
  word = λ armed report w. (tt, tt);
  tells = λ effect still. (tt, tt);
  rules = λ runs ruling armed q. (tt, tt);
  cut = λ runs change calls. (tt, tt);
  fails = λ runs change. (tt, tt);
  off = λ runs. (tt, tt);
  settles = λ change halted. (tt, tt);
  on = λ count dark. (tt, tt);
}

hears-sends : (octets : List ℕ) (bit : Bool) (kind : Kind) → HasKey kind → SendsOctets (node_hears octets bit kind)
unfolding device_hears
hears-sends octets bit (IsSink powered) k = hears-carries (λ ruling. Unit {0}) SendsOctets bit powered (cases-send bit powered) octets tt
hears-sends octets bit (IsDevice device) k = (tt, k)

presses-sends : (device : Device) (command : List ℕ) → IsOctets device.key.0 → IsOctets command → SendsOctets (device_presses command device)
unfolding device_presses
presses-sends device command k c = go (device.counter == 0xFFFFFFFF)
  where
    go : (b : Bool) → SendsOctets (cond b (out (IsDevice device) (reports.End ∷ [])) (sends device command))
    go true = (tt, k)
    go false = ((sealed-octets device (suc device.counter) command k c, tt), k)

does-send : (event : Event) (bit : Bool) (kind : Kind) (made : Out) → HasOctets event → HasKey kind → Does event bit kind made → SendsOctets made
does-send event bit kind made h k does =
    does-carries (λ powered ruling. Unit {0}) HasKey (λ own. SendsOctets) event bit (λ powered values counter. tt) (λ powered key. cases-send bit powered)
    (λ device command octets key. presses-sends device command key (octets h)) kind made does k

-- ---- the world

pub record IsOctetly (world : World) : Type 0 where
  pub air : EachOctets world.air
  pub keys : HaveKeys world.nodes

settled-octets : (world : World) (line : ℕ) (name : List ℕ) (time : ℕ) (origin : Option ℕ) (made : Out) → IsOctetly world → SendsOctets made → IsOctetly (settled world line name time origin made).world
unfolding settled
settled-octets world line name time origin made h s = record {
  air = each_append world.air made.airs h.air s.0;
  keys = keys_replaced name (record { kind = made.node; time = time }) world.nodes h.keys s.1;
}

joined-octets : (world : World) (name : List ℕ) (node : Node) → IsOctetly world → HasKey node.kind → IsOctetly (joined world name node).world
unfolding joined
joined-octets world name node h k = record { air = h.air; keys = keys_joined name node world.nodes h.keys k }

injected-octets : (world : World) (line : ℕ) (octets : List ℕ) → IsOctetly world → IsOctets octets → IsOctetly (injected world line octets).world
unfolding injected
injected-octets world line octets h are = record { air = each_append world.air (octets ∷ []) h.air (are, tt); keys = h.keys }

comes-octets : (world : World) (line : ℕ) (event : Event) (bit : Bool) (next : Next) → HasOctets event → IsOctetly world → Comes world line event bit next → IsOctetly next.world
comes-octets world line event bit next h w (Stays is) = subst (λ (n : Next). IsOctetly n.world) (sym is) w
comes-octets world line event bit next h w (Joins name node free new keyed is) = subst (λ (n : Next). IsOctetly n.world) (sym is) (joined-octets world name node w (keyed h))
comes-octets world line event bit next h w (Injects octets are is) = subst (λ (n : Next). IsOctetly n.world) (sym is) (injected-octets world line octets w (are h))
comes-octets world line event bit next h w (Acts name node time made found does is) =
    subst (λ (n : Next). IsOctetly n.world) (sym is)
    (settled-octets world line name time None made w (does-send event bit node.kind made h (keys_found name node world.nodes w.keys found) does))
comes-octets world line event bit next h w (came.Hears reading frame link name node octets asked found sent is) =
    subst (λ (n : Next). IsOctetly n.world) (sym is)
    (settled-octets world line name (max node.time reading) (Some frame) (node_hears octets bit node.kind) w (hears-sends octets bit node.kind (keys_found name node world.nodes w.keys found)))

-- ---- every run

empty-octets : IsOctetly empty
unfolding empty
empty-octets = record { air = tt; keys = tt }

pub run-octets : (moments : List Moment) → Run moments → IsOctetly (world_after moments)
run-octets [] run = empty-octets
run-octets (moment ∷ earlier) run =
    let before = subst IsOctetly (sym run.0.begins) (run-octets earlier run.1) in
    comes-octets moment.before (suc (length earlier)) moment.event moment.bit moment.next (asked-octets run.0.asked.0 moment.event run.0.asked.1) before
    (comes moment.before (suc (length earlier)) moment.event moment.bit moment.next run.0.steps)

run-air : (moments : List Moment) → Run moments → Each (λ moment earlier. OnAir moment.before) moments
run-air [] run = tt
run-air (moment ∷ earlier) run = (
  λ n octets e. each_there moment.before.air n octets (subst IsOctetly (sym run.0.begins) (run-octets earlier run.1)).air e,
  run-air earlier run.1,
)

pub run-exact : (moments : List Moment) → Run moments → Exact moments
run-exact moments run = runs-exact moments run (run-air moments run)

pub run-verified : (moments : List Moment) → Run moments → Verified moments
run-verified moments run = runs-verified moments run (run-air moments run)
