-- Samplers by their wrap modes alone.
use Rattle.gl_tokens.specs.declared.filter.Filter.TheVariants.{Nearest}
use Rattle.gl_tokens.specs.declared.wrap.Wrap.{Wrap}
use Rattle.gl_records.specs.declared.sampler.Sampler.{Sampler}

-- a sampler with these wrap modes of S and T; which filters it names makes no difference to what a level gives
abbrev pub wrapping : Wrap → Wrap → Sampler
wrapping s t = record { mag = Nearest; min = Nearest; wrap_s = s; wrap_t = t }
