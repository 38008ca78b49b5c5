-- The names in STATE's folder, or a file, with one of the fields replaced.
use Rattle.std.specs.Prelude.{Bool}
use Rattle.night_folders.specs.Folders.{Site, Text, Step, Phase, Help, Got, File, Home}

abbrev pub with_phase : Phase → Home → Home
with_phase p h = record { phase = p; help = h.help; night = h.night; night_down = h.night_down; done = h.done; done_down = h.done_down; past = h.past }

abbrev pub with_help : Help → Home → Home
with_help g h = record { phase = h.phase; help = g; night = h.night; night_down = h.night_down; done = h.done; done_down = h.done_down; past = h.past }

abbrev pub with_night : Bool → Home → Home
with_night b h = record { phase = h.phase; help = h.help; night = b; night_down = h.night_down; done = h.done; done_down = h.done_down; past = h.past }

abbrev pub with_night_down : Bool → Home → Home
with_night_down b h = record { phase = h.phase; help = h.help; night = h.night; night_down = b; done = h.done; done_down = h.done_down; past = h.past }

abbrev pub with_done : Bool → Home → Home
with_done b h = record { phase = h.phase; help = h.help; night = h.night; night_down = h.night_down; done = b; done_down = h.done_down; past = h.past }

abbrev pub with_done_down : Bool → Home → Home
with_done_down b h = record { phase = h.phase; help = h.help; night = h.night; night_down = h.night_down; done = h.done; done_down = b; past = h.past }

abbrev pub with_past : Bool → Home → Home
with_past b h = record { phase = h.phase; help = h.help; night = h.night; night_down = h.night_down; done = h.done; done_down = h.done_down; past = b }

abbrev pub with_step : Step → File → File
with_step s f = record { step = s; got = f.got; site = f.site; site_down = f.site_down; text = f.text; text_down = f.text_down }

abbrev pub with_got : Got → File → File
with_got g f = record { step = f.step; got = g; site = f.site; site_down = f.site_down; text = f.text; text_down = f.text_down }

abbrev pub with_site : Site → File → File
with_site s f = record { step = f.step; got = f.got; site = s; site_down = f.site_down; text = f.text; text_down = f.text_down }

abbrev pub with_site_down : Site → File → File
with_site_down s f = record { step = f.step; got = f.got; site = f.site; site_down = s; text = f.text; text_down = f.text_down }

abbrev pub with_text : Text → File → File
with_text t f = record { step = f.step; got = f.got; site = f.site; site_down = f.site_down; text = t; text_down = f.text_down }

abbrev pub with_text_down : Text → File → File
with_text_down t f = record { step = f.step; got = f.got; site = f.site; site_down = f.site_down; text = f.text; text_down = t }
