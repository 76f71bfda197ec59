-- The lists of a document that an index goes into.

pub data ListName : Type 0 where
  accessors : ListName
  animations : ListName
  buffers : ListName
  buffer_views : ListName
  cameras : ListName
  images : ListName
  materials : ListName
  meshes : ListName
  nodes : ListName
  samplers : ListName
  scenes : ListName
  skins : ListName
  textures : ListName
  lights : ListName
  variants : ListName
