-- How the key of a device is wrapped under a link key (Zigbee PRO Green Power, A.3.7.1.2.3 and A.4.2.1).
use Rattle.std.specs.Prelude.{ℕ, List}
use Rattle.std.specs.Int.{w32, to_le_bytes}
use Rattle.gp_ccm.specs.Ccm.{ccm}
use Rattle.gp_security.specs.declared.wrapping.Way.{Way}
use Rattle.gp_security.specs.declared.wrapping.Way.TheVariants.{FromDevice, ToDevice}
use Rattle.gp_security.specs.Protection.{nonce}

-- the nonce: from the device the SrcID three times; to the device zeros, the SrcID and the counter of the reply
abbrev pub wrap_nonce : ℕ → Way → List ℕ
wrap_nonce source FromDevice = nonce source source source
wrap_nonce source (ToDevice counter) = nonce 0 source counter

-- the wrapped key and its MIC of four octets: the key octets encrypted, and the SrcID authenticated with them
abbrev pub wrap : List ℕ → ℕ → Way → List ℕ → List ℕ × List ℕ
wrap link source way key = ccm link (wrap_nonce source way) (to_le_bytes w32 source) key 4
