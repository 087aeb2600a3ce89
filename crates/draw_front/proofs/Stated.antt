-- A command of the state alone.
use Rattle.std.proofs.Common.{◌≡◌, ◌∙◌, ℕ, ℤ, true, false, Option, Some, None, OnSome, refl, sym, ap}
use Rattle.gl_records.specs.declared.rec.Rec.{Rec}
use Rattle.gl_records.specs.declared.rec.Rec.TheVariants.{GetError, Get, IsEnabled, IsBuffer, IsTexture, ClientBytes, VertexPointer, NormalPointer, ColorPointer, TexCoordPointer, EnableClientState, DisableClientState, ClientActiveTexture, DrawArrays, DrawElements, GenBuffers, DeleteBuffers, BindBuffer, BufferData, BufferSubData, Clear, GenTextures, DeleteTextures, BindTexture, TexParameterx, TexImage2D, TexSubImage2D, CompressedTexImage2D}
use Rattle.gl_state.specs.declared.state.State.{State}
use Rattle.gl_state.specs.State.{ran}
use Rattle.gl_tokens.specs.declared.gl_error.GlError.{GlError}
use Rattle.draw_front.specs.Call.{commanded, on_state, changes_memory, changes_textures}
use Rattle.draw_front.specs.Context.{Context}

-- the record is none of the commands that touch something else
pub record IsOfState (rec : Rec) : Type 0 where
  pub error : rec ≡ GetError → ⊥
  pub get : (x : ℕ) → rec ≡ Get x → ⊥
  pub enabled : (x : ℕ) → rec ≡ IsEnabled x → ⊥
  pub buffer : (x : ℕ) → rec ≡ IsBuffer x → ⊥
  pub texture : (x : ℕ) → rec ≡ IsTexture x → ⊥
  pub pointer : (a : ℤ) (b : ℕ) (c : ℤ) (d e : ℕ) → rec ≡ VertexPointer a b c d e → ⊥
  pub normals : (a : ℕ) (b : ℤ) (c d : ℕ) → rec ≡ NormalPointer a b c d → ⊥
  pub colors : (a : ℤ) (b : ℕ) (c : ℤ) (d e : ℕ) → rec ≡ ColorPointer a b c d e → ⊥
  pub texture_coords : (a : ℤ) (b : ℕ) (c : ℤ) (d e : ℕ) → rec ≡ TexCoordPointer a b c d e → ⊥
  pub enable : (x : ℕ) → rec ≡ EnableClientState x → ⊥
  pub disable : (x : ℕ) → rec ≡ DisableClientState x → ⊥
  pub unit : (x : ℕ) → rec ≡ ClientActiveTexture x → ⊥
  pub draw : (x : ℕ) (y z : ℤ) → rec ≡ DrawArrays x y z → ⊥
  pub elements : (a : ℕ) (b : ℤ) (c d e : ℕ) → rec ≡ DrawElements a b c d e → ⊥
  pub memory : changes_memory rec ≡ false
  pub textures : changes_textures rec ≡ false
  pub clear : (x : ℕ) → rec ≡ Clear x → ⊥

changed : true ≡ false → ⊥
changed is = absurd cc

pub stated : (context : Context) (rec : Rec) → IsOfState rec → commanded context rec ≡ on_state context (ran context.state rec)
stated context GetError of = absurd (of.error refl)
stated context (Get x) of = absurd (of.get x refl)
stated context (IsEnabled x) of = absurd (of.enabled x refl)
stated context (IsBuffer x) of = absurd (of.buffer x refl)
stated context (IsTexture x) of = absurd (of.texture x refl)
stated context (ClientBytes x y) of = absurd (changed of.memory)
stated context (VertexPointer a b c d e) of = absurd (of.pointer a b c d e refl)
stated context (NormalPointer a b c d) of = absurd (of.normals a b c d refl)
stated context (ColorPointer a b c d e) of = absurd (of.colors a b c d e refl)
stated context (TexCoordPointer a b c d e) of = absurd (of.texture_coords a b c d e refl)
stated context (EnableClientState x) of = absurd (of.enable x refl)
stated context (DisableClientState x) of = absurd (of.disable x refl)
stated context (ClientActiveTexture x) of = absurd (of.unit x refl)
stated context (DrawArrays x y z) of = absurd (of.draw x y z refl)
stated context (DrawElements a b c d e) of = absurd (of.elements a b c d e refl)
stated context (GenBuffers x) of = absurd (changed of.memory)
stated context (DeleteBuffers x) of = absurd (changed of.memory)
stated context (BindBuffer x y) of = absurd (changed of.memory)
stated context (BufferData a b c d) of = absurd (changed of.memory)
stated context (BufferSubData a b c d) of = absurd (changed of.memory)
stated context (Clear x) of = absurd (of.clear x refl)
stated context (GenTextures x) of = absurd (changed of.textures)
stated context (DeleteTextures x) of = absurd (changed of.textures)
stated context (BindTexture x y) of = absurd (changed of.textures)
stated context (TexParameterx x y z) of = absurd (changed of.textures)
stated context (TexImage2D a b c d e f g h i) of = absurd (changed of.textures)
stated context (TexSubImage2D a b c d e f g h i) of = absurd (changed of.textures)
stated context (CompressedTexImage2D a b c d e f g h) of = absurd (changed of.textures)
stated context _ of = refl

pub stated-run : (before now next : Context) (rec : Rec) (state : State) (result : Option GlError) → IsOfState rec → before ≡ now
    → next ≡ (let after : Context = record before { state = state } in after) → (state, result) ≡ ran before.state rec → (next, result) ≡ commanded now rec
stated-run before now next rec state result of same is run =
    ap (λ (n : Context). (n, result)) is ∙ ap (on_state before) run ∙ sym (stated before rec of) ∙ ap (λ (n : Context). commanded n rec) same

pub stated-unchanged : (before now next : Context) (state : State) (result : Option GlError) → before ≡ now
    → next ≡ (let after : Context = record before { state = state } in after) → OnSome result (state ≡ before.state) → OnSome result (next ≡ now)
stated-unchanged before now next state None same is stays = tt
stated-unchanged before now next state (Some error) same is stays =
    is ∙ ap (λ (s : State). let after : Context = record before { state = s } in after) stays ∙ same
