-- A test at every value of each type of the model, computed; and what it says of one value. Assumes nothing.
use mathlib.Core.Bool.{Bool, true, false, ◌&&◌}
use lib.Dec.{T}
use Rattle.night_folders.specs.Folders.{Site, nowhere, work, place, Text, part, whole, Step, fresh, made, written, saved, moved, down, Phase, idle, making, sealed, decided, placing, clearing}
use Rattle.night_folders.specs.Folders.{undoing, Help, off, looking, putting, leaving, Got, todo, tried, sure, File, Home}

-- all fields of a record in their order, for the tests over every value
abbrev pub home_of : Phase → Help → Bool → Bool → Bool → Bool → Bool → Home
home_of p g n nd d dd past = record { phase = p; help = g; night = n; night_down = nd; done = d; done_down = dd; past = past }

abbrev file_of : Step → Got → Site → Site → Text → Text → File
file_of s g b c d e = record { step = s; got = g; site = b; site_down = c; text = d; text_down = e }

pub first : (a b : Bool) → T (a && b) → T a
first true b t = tt
first false b t = t

pub second : (a b : Bool) → T (a && b) → T b
second true b t = t
second false b t = absurd t

pub both : (a b : Bool) → T a → T b → T (a && b)
both true b s t = t
both false b s t = s

abbrev pub implies : Bool → Bool → Bool
implies true b = b
implies false b = true

pub meet : (a b : Bool) → T (implies a b) → T a → T b
meet true b t s = t
meet false b t s = absurd s

abbrev pub each_bool : (Bool → Bool) → Bool
each_bool p = p false && p true

pub at_bool : (p : Bool → Bool) → T (each_bool p) → (b : Bool) → T (p b)
at_bool p t false = first (p false) (p true) t
at_bool p t true = second (p false) (p true) t

abbrev pub each_site : (Site → Bool) → Bool
each_site p = p nowhere && (p work && p place)

pub at_site : (p : Site → Bool) → T (each_site p) → (s : Site) → T (p s)
at_site p t nowhere = first (p nowhere) (p work && p place) t
at_site p t work = first (p work) (p place) (second (p nowhere) (p work && p place) t)
at_site p t place = second (p work) (p place) (second (p nowhere) (p work && p place) t)

abbrev pub each_text : (Text → Bool) → Bool
each_text p = p part && p whole

pub at_text : (p : Text → Bool) → T (each_text p) → (s : Text) → T (p s)
at_text p t part = first (p part) (p whole) t
at_text p t whole = second (p part) (p whole) t

abbrev pub each_step : (Step → Bool) → Bool
each_step p = p fresh && (p made && (p written && (p saved && (p moved && p down))))

pub at_step : (p : Step → Bool) → T (each_step p) → (s : Step) → T (p s)
at_step p t fresh = first (p fresh) (p made && (p written && (p saved && (p moved && p down)))) t
at_step p t made = first (p made) (p written && (p saved && (p moved && p down))) (second (p fresh) _ t)
at_step p t written = first (p written) (p saved && (p moved && p down)) (second (p made) _ (second (p fresh) _ t))
at_step p t saved = first (p saved) (p moved && p down) (second (p written) _ (second (p made) _ (second (p fresh) _ t)))
at_step p t moved = first (p moved) (p down) (second (p saved) _ (second (p written) _ (second (p made) _ (second (p fresh) _ t))))
at_step p t down = second (p moved) (p down) (second (p saved) _ (second (p written) _ (second (p made) _ (second (p fresh) _ t))))

abbrev pub each_phase : (Phase → Bool) → Bool
each_phase p = p idle && (p making && (p sealed && (p decided && (p placing && (p clearing && p undoing)))))

pub at_phase : (p : Phase → Bool) → T (each_phase p) → (s : Phase) → T (p s)
at_phase p t idle = first (p idle) _ t
at_phase p t making = first (p making) _ (second (p idle) _ t)
at_phase p t sealed = first (p sealed) _ (second (p making) _ (second (p idle) _ t))
at_phase p t decided = first (p decided) _ (second (p sealed) _ (second (p making) _ (second (p idle) _ t)))
at_phase p t placing = first (p placing) _ (second (p decided) _ (second (p sealed) _ (second (p making) _ (second (p idle) _ t))))
at_phase p t clearing = first (p clearing) (p undoing) (second (p placing) _ (second (p decided) _ (second (p sealed) _ (second (p making) _ (second (p idle) _ t)))))
at_phase p t undoing = second (p clearing) (p undoing) (second (p placing) _ (second (p decided) _ (second (p sealed) _ (second (p making) _ (second (p idle) _ t)))))

abbrev pub each_help : (Help → Bool) → Bool
each_help p = p off && (p looking && (p putting && p leaving))

pub at_help : (p : Help → Bool) → T (each_help p) → (s : Help) → T (p s)
at_help p t off = first (p off) _ t
at_help p t looking = first (p looking) _ (second (p off) _ t)
at_help p t putting = first (p putting) (p leaving) (second (p looking) _ (second (p off) _ t))
at_help p t leaving = second (p putting) (p leaving) (second (p looking) _ (second (p off) _ t))

abbrev pub each_got : (Got → Bool) → Bool
each_got p = p todo && (p tried && p sure)

pub at_got : (p : Got → Bool) → T (each_got p) → (s : Got) → T (p s)
at_got p t todo = first (p todo) _ t
at_got p t tried = first (p tried) (p sure) (second (p todo) _ t)
at_got p t sure = second (p tried) (p sure) (second (p todo) _ t)

-- every file whose entry and bytes pass a first test
abbrev each_memory : (File → Bool) → Site → Site → Text → Text → Bool
each_memory p b c d e = each_step (λ a. each_got (λ g. p (file_of a g b c d e)))

abbrev pub each_file : (Site → Site → Text → Text → Bool) → (File → Bool) → Bool
each_file q p = each_site (λ b. each_site (λ c. each_text (λ d. each_text (λ e. implies (q b c d e) (each_memory p b c d e)))))

at_memory : (p : File → Bool) (f : File) → T (each_memory p f.site f.site_down f.text f.text_down) → T (p f)
at_memory p f t =
    at_got (λ g. p (file_of f.step g f.site f.site_down f.text f.text_down))
    (at_step (λ a. each_got (λ g. p (file_of a g f.site f.site_down f.text f.text_down)))
    t f.step) f.got

pub at_file : (q : Site → Site → Text → Text → Bool) (p : File → Bool) → T (each_file q p)
    → (f : File) → T (q f.site f.site_down f.text f.text_down) → T (p f)
at_file q p t f h =
    at_memory p f (meet (q f.site f.site_down f.text f.text_down) _
    (at_text (λ e. implies (q f.site f.site_down f.text e) (each_memory p f.site f.site_down f.text e))
    (at_text (λ d. each_text (λ e. implies (q f.site f.site_down d e) (each_memory p f.site f.site_down d e)))
    (at_site (λ c. each_text (λ d. each_text (λ e. implies (q f.site c d e) (each_memory p f.site c d e))))
    (at_site (λ b. each_site (λ c. each_text (λ d. each_text (λ e. implies (q b c d e) (each_memory p b c d e))))) t f.site)
    f.site_down) f.text) f.text_down) h)

-- every state of the names; the entries of STATE.night stand for themselves, as no test looks at them
abbrev pub each_home : (Home → Bool) → Bool → Bool → Bool
each_home p n d = each_phase (λ a. each_help (λ g. each_bool (λ b. each_bool (λ c. each_bool (λ e. p (home_of a g n d b c e))))))

pub at_home : (p : Home → Bool) → ((n d : Bool) → T (each_home p n d)) → (h : Home) → T (p h)
at_home p t h =
    at_bool (λ e. p (home_of h.phase h.help h.night h.night_down h.done h.done_down e))
    (at_bool (λ c. each_bool (λ e. p (home_of h.phase h.help h.night h.night_down h.done c e)))
    (at_bool (λ b. each_bool (λ c. each_bool (λ e. p (home_of h.phase h.help h.night h.night_down b c e))))
    (at_help (λ g. each_bool (λ b. each_bool (λ c. each_bool (λ e. p (home_of h.phase g h.night h.night_down b c e)))))
    (at_phase (λ a. each_help (λ g. each_bool (λ b. each_bool (λ c. each_bool (λ e. p (home_of a g h.night h.night_down b c e))))))
    (t h.night h.night_down) h.phase) h.help) h.done) h.done_down) h.past
