-- The serial interface with one of its fields replaced.
use Rattle.std.specs.Prelude.{ℕ, Bool}
use Rattle.bits.specs.declared.Flag.{Flag}
use Rattle.serial.specs.declared.Serial.{Serial}

abbrev pub with_wu : Bool → Serial → Serial
with_wu b s =
    record {
      wu = b;
      te = s.te;
      tie = s.tie;
      re = s.re;
      rie = s.rie;
      tdre = s.tdre;
      orfe = s.orfe;
      rdrf = s.rdrf;
      rate = s.rate;
      received = s.received;
      transmit = s.transmit;
      busy = s.busy;
    }

abbrev pub with_tdre : Flag → Serial → Serial
with_tdre f s =
    record {
      wu = s.wu;
      te = s.te;
      tie = s.tie;
      re = s.re;
      rie = s.rie;
      tdre = f;
      orfe = s.orfe;
      rdrf = s.rdrf;
      rate = s.rate;
      received = s.received;
      transmit = s.transmit;
      busy = s.busy;
    }

abbrev pub with_orfe : Flag → Serial → Serial
with_orfe f s =
    record {
      wu = s.wu;
      te = s.te;
      tie = s.tie;
      re = s.re;
      rie = s.rie;
      tdre = s.tdre;
      orfe = f;
      rdrf = s.rdrf;
      rate = s.rate;
      received = s.received;
      transmit = s.transmit;
      busy = s.busy;
    }

abbrev pub with_rdrf : Flag → Serial → Serial
with_rdrf f s =
    record {
      wu = s.wu;
      te = s.te;
      tie = s.tie;
      re = s.re;
      rie = s.rie;
      tdre = s.tdre;
      orfe = s.orfe;
      rdrf = f;
      rate = s.rate;
      received = s.received;
      transmit = s.transmit;
      busy = s.busy;
    }

abbrev pub with_rate : ℕ → Serial → Serial
with_rate n s =
    record {
      wu = s.wu;
      te = s.te;
      tie = s.tie;
      re = s.re;
      rie = s.rie;
      tdre = s.tdre;
      orfe = s.orfe;
      rdrf = s.rdrf;
      rate = n;
      received = s.received;
      transmit = s.transmit;
      busy = s.busy;
    }

abbrev pub with_received : ℕ → Serial → Serial
with_received n s =
    record {
      wu = s.wu;
      te = s.te;
      tie = s.tie;
      re = s.re;
      rie = s.rie;
      tdre = s.tdre;
      orfe = s.orfe;
      rdrf = s.rdrf;
      rate = s.rate;
      received = n;
      transmit = s.transmit;
      busy = s.busy;
    }

abbrev pub with_transmit : ℕ → Serial → Serial
with_transmit n s =
    record {
      wu = s.wu;
      te = s.te;
      tie = s.tie;
      re = s.re;
      rie = s.rie;
      tdre = s.tdre;
      orfe = s.orfe;
      rdrf = s.rdrf;
      rate = s.rate;
      received = s.received;
      transmit = n;
      busy = s.busy;
    }

abbrev pub with_busy : ℕ → Serial → Serial
with_busy n s =
    record {
      wu = s.wu;
      te = s.te;
      tie = s.tie;
      re = s.re;
      rie = s.rie;
      tdre = s.tdre;
      orfe = s.orfe;
      rdrf = s.rdrf;
      rate = s.rate;
      received = s.received;
      transmit = s.transmit;
      busy = n;
    }
