use Rattle.std.proofs.Common.{refl}
use Rattle.draw_front.specs.Context.{Context}
use Rattle.draw_front.proofs.Stated.{IsOfState, stated-run, stated-unchanged}
use Rattle.draw_front.proofs.context.Context.run_beside_objects.Goals as goal

pub returns-in_default : goal.returns-in_default
returns-in_default c =
    let now = c.args.self.now in
    let of : IsOfState c.args.rec.now = record {
      error = c.in_default.not-GetError;
      get = c.in_default.not-Get;
      enabled = c.in_default.not-IsEnabled;
      buffer = c.in_default.not-IsBuffer;
      texture = c.in_default.not-IsTexture;
      pointer = c.in_default.not-VertexPointer;
      normals = c.in_default.not-NormalPointer;
      colors = c.in_default.not-ColorPointer;
      texture_coords = c.in_default.not-TexCoordPointer;
      enable = c.in_default.not-EnableClientState;
      disable = c.in_default.not-DisableClientState;
      unit = c.in_default.not-ClientActiveTexture;
      draw = c.in_default.not-DrawArrays;
      elements = c.in_default.not-DrawElements;
      memory = c.requires.memory;
      textures = c.requires.textures;
      clear = c.in_default.not-Clear;
    } in
    let inside = c.self-in_default.inside in
    let before : Context = record { state = inside.state; flag = inside.flag; arrays = inside.arrays; regions = inside.regions; buffers = inside.buffers; textures = inside.textures } in
    let next : Context = record before { state = c.apply.new.self } in
    record {
      run = stated-run before now next c.args.rec.now c.apply.new.self c.apply.result of c.self-in_default.view_is refl c.apply.ensures.run;
      unchanged = stated-unchanged before now next c.apply.new.self c.apply.result c.self-in_default.view_is refl c.apply.ensures.unchanged;
    }
