-- The timer with one of its fields replaced.
use Rattle.std.specs.Prelude.{ℕ}
use Rattle.bits.specs.declared.Flag.{Flag}
use Rattle.timer.specs.declared.Timer.{Timer}

abbrev pub with_tof : Flag → Timer → Timer
with_tof f t =
    record {
      olvl = t.olvl;
      iedg = t.iedg;
      etoi = t.etoi;
      eoci = t.eoci;
      eici = t.eici;
      tof = f;
      ocf = t.ocf;
      icf = t.icf;
      counter = t.counter;
      compare = t.compare;
      capture = t.capture;
      level = t.level;
    }

abbrev pub with_ocf : Flag → Timer → Timer
with_ocf f t =
    record {
      olvl = t.olvl;
      iedg = t.iedg;
      etoi = t.etoi;
      eoci = t.eoci;
      eici = t.eici;
      tof = t.tof;
      ocf = f;
      icf = t.icf;
      counter = t.counter;
      compare = t.compare;
      capture = t.capture;
      level = t.level;
    }

abbrev pub with_icf : Flag → Timer → Timer
with_icf f t =
    record {
      olvl = t.olvl;
      iedg = t.iedg;
      etoi = t.etoi;
      eoci = t.eoci;
      eici = t.eici;
      tof = t.tof;
      ocf = t.ocf;
      icf = f;
      counter = t.counter;
      compare = t.compare;
      capture = t.capture;
      level = t.level;
    }

abbrev pub with_counter : ℕ → Timer → Timer
with_counter n t =
    record {
      olvl = t.olvl;
      iedg = t.iedg;
      etoi = t.etoi;
      eoci = t.eoci;
      eici = t.eici;
      tof = t.tof;
      ocf = t.ocf;
      icf = t.icf;
      counter = n;
      compare = t.compare;
      capture = t.capture;
      level = t.level;
    }

abbrev pub with_compare : ℕ → Timer → Timer
with_compare n t =
    record {
      olvl = t.olvl;
      iedg = t.iedg;
      etoi = t.etoi;
      eoci = t.eoci;
      eici = t.eici;
      tof = t.tof;
      ocf = t.ocf;
      icf = t.icf;
      counter = t.counter;
      compare = n;
      capture = t.capture;
      level = t.level;
    }

abbrev pub with_capture : ℕ → Timer → Timer
with_capture n t =
    record {
      olvl = t.olvl;
      iedg = t.iedg;
      etoi = t.etoi;
      eoci = t.eoci;
      eici = t.eici;
      tof = t.tof;
      ocf = t.ocf;
      icf = t.icf;
      counter = t.counter;
      compare = t.compare;
      capture = n;
      level = t.level;
    }
